-- Laws of the directory's entries.
use Rattle.std.proofs.Common.{◌≡◌, ◌≢◌, ℕ, ◌*◌, ◌%◌, ◌/◌, ◌^◌, ◌<◌, ◌≤◌, Bool, true, false, refl, ap, sym, ◌∙◌, arith, eq-eqb, eqb-true, w16, bit_and, bit_or, inl, inr}
use Rattle.std.specs.Prelude.{Option, None, Some, ◌==◌, ◌↔◌, IfSome, IsTrue, MatchOption, is_some, if◌then◌else◌}
use Rattle.std.specs.Int.{bit_at, bit_not, trailing_zeros}
use Rattle.std.proofs.lemmas.Nat.{and_le_l}
use mir.Val.{bits}
use Rattle.std.proofs.lemmas.Bool.{cases_eq, cases_lt, ne_eqb}
use Rattle.std.proofs.lemmas.Bool.Decides.{nat_tests}
use Rattle.std.proofs.lemmas.Nat.Bits.{bit_at-zero, bit_at-trailing_zeros, shr_and_one, bit_at_above, bit_at-lt, bit_at_set_same, bit_at_set_other, bit_at_clear_same, bit_at_clear_other, same_from_bits}
use Rattle.tl_types.specs.Permission.{rank}
use Rattle.tl_types.specs.declared.permission.Perm.{Perm}
use Rattle.tl_types.specs.declared.permission.Perm.TheVariants.{None as NoAccess, Branch, Tip}
use Rattle.tl_types.specs.declared.limits.TheConstants.{CLIENTS}
use Rattle.tl_ways.specs.Entries.{Entry, IsEntry, IsOfClients, is_owner, perm_by, entry_perm}

-- the owner passes the test, and no other does
is_owner-same : (client : ℕ) → is_owner (Some client) client ≡ true
is_owner-same client = grind (arith, nat_tests)

-- a client that differs from the owner does not pass the test
is_owner-other : (owner client : ℕ) → client ≢ owner → is_owner (Some owner) client ≡ false
is_owner-other owner client other = grind (arith, nat_tests, other)

-- nor does one that is not the owner, whether there is an owner or none
is_owner-none : (owner : Option ℕ) (client : ℕ) → (owner ≡ Some client → ⊥) → is_owner owner client ≡ false
is_owner-none None client other = refl
is_owner-none (Some owner) client other =
    is_owner-other owner client (λ same. other (ap (λ (n : ℕ). Some n) (sym same)))

-- with no permission recorded no client has one
pub perm_of-new : (tag : ℕ) (dirty : Bool) (client : ℕ)
    → entry_perm (record { tag = tag; dirty = dirty; owner = None; branches = 0 }) client ≡ NoAccess
unfolding entry_perm
perm_of-new tag dirty client = rw (bit_at-zero client) refl

-- whether home's copy is dirty says nothing of permissions
pub perm_of-dirty : (entry : Entry) (dirty : Bool) (client : ℕ) → entry_perm (record entry { dirty = dirty }) client ≡ entry_perm entry client
unfolding entry_perm
perm_of-dirty entry dirty client = refl

-- the owner has Tip
pub perm_of-owner : (entry : Entry) (client : ℕ) → entry.owner ≡ Some client → entry_perm entry client ≡ Tip
unfolding entry_perm
perm_of-owner entry client owner = rw (owner, is_owner-same client) refl

-- beside an owner no other has a permission
pub perm_of-beside : (entry : Entry) (owner client : ℕ) → IsEntry entry → entry.owner ≡ Some owner → client ≢ owner
    → entry_perm entry client ≡ NoAccess
unfolding entry_perm
perm_of-beside entry owner client kept is other =
    let none : entry.branches ≡ 0 = rw is at kept.alone in
    rw (is, is_owner-other owner client other, none, bit_at-zero client) refl

-- a client that is not the owner has Branch or nothing
pub perm_of-bit : (entry : Entry) (client : ℕ) → (entry.owner ≡ Some client → ⊥)
    → entry_perm entry client ≡ perm_by false (bit_at entry.branches client)
unfolding entry_perm
perm_of-bit entry client other = ap (λ owns. perm_by owns (bit_at entry.branches client)) (is_owner-none entry.owner client other)

-- where there is no owner and no bit is set, no client has a permission
pub nobody-recorded : (entry : Entry) → entry.owner ≡ None → entry.branches ≡ 0 → (client : ℕ) → entry_perm entry client ≡ NoAccess
unfolding entry_perm
nobody-recorded entry owner branches client = rw (owner, branches, bit_at-zero client) refl

-- an owner that is not there
not-some : (owner : Option ℕ) → is_some owner ≡ false → owner ≡ None
not-some None h = refl
not-some (Some owner) h = cc

-- a bit by which a client has nothing is not set
bit-unset : (bit : ℕ) → bit < 2 → perm_by false bit ≡ NoAccess → bit ≡ 0
bit-unset bit few nothing =
    elim (cases_eq bit 1) [
      | inl e ↦ let bad : perm_by false 1 ≡ NoAccess = ap (perm_by false) (sym e) ∙ nothing in cc
      | inr e ↦ omega arith
    ]

-- and then there is none
pub no-owner : (entry : Entry) → ((client : ℕ) → entry_perm entry client ≡ NoAccess) → entry.owner ≡ None
no-owner entry nobody =
    elim entry.owner as (λ owner. entry.owner ≡ owner → owner ≡ None) [
      | None ↦ λ is. refl
      | Some owner ↦ λ is. let bad : Tip ≡ NoAccess = sym (perm_of-owner entry owner is) ∙ nobody owner in cc
    ] refl

pub no-branches : (entry : Entry) → entry.owner ≡ None → ((client : ℕ) → entry_perm entry client ≡ NoAccess) → entry.branches ≡ 0
no-branches entry none nobody =
    same_from_bits entry.branches 0
    (λ client.
    let other : entry.owner ≡ Some client → ⊥ = λ is. let bad : None ≡ Some client = sym none ∙ is in cc in
    bit-unset (bit_at entry.branches client) (bit_at-lt entry.branches client) (sym (perm_of-bit entry client other) ∙ nobody client)
    ∙ sym (bit_at-zero client))

-- where there is no owner, nobody is recorded just where no bit is set
pub unshared : (entry : Entry) → is_some entry.owner ≡ false
    → IsTrue (entry.branches == 0) ↔ ((client : ℕ) → entry_perm entry client ≡ NoAccess)
unshared entry h =
    let none : entry.owner ≡ None = not-some entry.owner h in (
      λ zero. nobody-recorded entry none (eqb-true entry.branches 0 zero),
      λ nobody. eq-eqb entry.branches 0 (no-branches entry none nobody),
    )

-- and where there is one, he is recorded
pub shared : (entry : Entry) (test : Bool) → is_some entry.owner ≡ true → test ≡ false
    → IsTrue test ↔ ((client : ℕ) → entry_perm entry client ≡ NoAccess)
shared entry test h fails = (
  λ passes. let bad : false ≡ true = sym fails ∙ passes in cc,
  λ nobody. let bad : false ≡ true = ap is_some (sym (no-owner entry nobody)) ∙ h in cc,
)

-- a client past the mask has nothing
pub perm_of-past : (entry : Entry) (client : ℕ) → IsEntry entry → CLIENTS ≤ client → (entry.owner ≡ Some client → ⊥)
    → entry_perm entry client ≡ NoAccess
perm_of-past entry client kept past other =
    perm_of-bit entry client other ∙ ap (perm_by false) (bit_at_above entry.branches CLIENTS client kept.branches past)

-- a bit that is not 1
zero_bit : (bit : ℕ) → bit < 2 → (bit ≡ 1 → ⊥) → bit ≡ 0
zero_bit bit small other = grind (arith, other)

-- the test of a bit
pub bit_set : (branches client : ℕ) → bit_and (branches / 2 ^ client) 1 ≡ 1 → bit_at branches client ≡ 1
bit_set branches client test = sym (shr_and_one branches client) ∙ test

-- and where the test fails the bit is 0
pub bit_clear : (branches client : ℕ) → (bit_and (branches / 2 ^ client) 1 ≡ 1 → ⊥) → bit_at branches client ≡ 0
bit_clear branches client test =
    let not_one : bit_at branches client ≡ 1 → ⊥ = λ one. test (shr_and_one branches client ∙ one) in
    let small = bit_at-lt branches client in
    zero_bit (bit_at branches client) small not_one

-- ## The lowest client with more than a permission

-- a number that is not 0
not-zero : (n : ℕ) → (n ≡ 0 → ⊥) → 0 < n
not-zero n other = omega (arith, other)

-- the lowest bit that is set
pub first-bit : (branches first : ℕ) → branches < 2 ^ CLIENTS → (branches ≡ 0 → ⊥) → first ≡ trailing_zeros w16 branches
    → (bit_at branches first ≡ 1) × ((client : ℕ) → client < first → bit_at branches client ≡ 0)
first-bit branches first small some is =
    let lowest = bit_at-trailing_zeros w16 branches (not-zero branches some) small in
    rw is (lowest.1, lowest.2)

-- a permission that is not Tip is below it
below-tip : (perm : Perm) → (perm ≡ Tip → ⊥) → rank perm < 2
below-tip NoAccess other = omega arith
below-tip Branch other = omega arith
below-tip Tip other = absurd (other refl)

-- a permission that is not None is above it
above-none : (perm : Perm) → (perm ≡ NoAccess → ⊥) → 1 ≤ rank perm
above-none NoAccess other = absurd (other refl)
above-none Branch other = omega arith
above-none Tip other = omega arith

-- one that is not the owner has Branch at most
rank-bit : (test : Bool) → rank (if test then Branch else NoAccess) ≤ 1
rank-bit true = omega arith
rank-bit false = omega arith

-- the owner is the lowest, as nobody else has a permission
pub above-owner : (entry : Entry) (owner : ℕ) (perm : Perm) → IsEntry entry → entry.owner ≡ Some owner → (perm ≡ Tip → ⊥)
    → (rank perm < rank (entry_perm entry owner)) × ((client : ℕ) → client < owner → rank (entry_perm entry client) ≤ rank perm)
above-owner entry owner perm kept is other =
    let tip : rank (entry_perm entry owner) ≡ 2 = ap rank (perm_of-owner entry owner is) in
    let under : rank perm < 2 = below-tip perm other in (
      omega (arith, tip, under),
      λ client below.
          let none : rank (entry_perm entry client) ≡ 0 = ap rank (perm_of-beside entry owner client kept is (λ same. omega (arith, same, below))) in
          omega (arith, none),
    )

-- where there is no owner, nobody has more than Branch
pub above-branches : (entry : Entry) (perm : Perm) → entry.owner ≡ None → (perm ≡ NoAccess → ⊥)
    → (client : ℕ) → rank (entry_perm entry client) ≤ rank perm
above-branches entry perm none other client =
    let nobody : entry.owner ≡ Some client → ⊥ = λ is. let bad : None ≡ Some client = sym none ∙ is in cc in
    let is : rank (entry_perm entry client) ≡ rank (perm_by false (bit_at entry.branches client)) = ap rank (perm_of-bit entry client nobody) in
    let few : rank (perm_by false (bit_at entry.branches client)) ≤ 1 = rank-bit (bit_at entry.branches client == 1) in
    let more : 1 ≤ rank perm = above-none perm other in
    omega (arith, is, few, more)

-- and by whether his bit is set, each has Branch or nothing
rank-set : (entry : Entry) (client bit : ℕ) → entry.owner ≡ None → bit_at entry.branches client ≡ bit
    → rank (entry_perm entry client) ≡ rank (perm_by false bit)
rank-set entry client bit none is =
    let nobody : entry.owner ≡ Some client → ⊥ = λ some. let bad : None ≡ Some client = sym none ∙ some in cc in
    ap rank (perm_of-bit entry client nobody ∙ ap (perm_by false) is)

-- so the lowest bit is the lowest client's with a permission
pub above-nothing : (entry : Entry) (perm : Perm) (found : Option ℕ) → entry.owner ≡ None → perm ≡ NoAccess
    → MatchOption found (entry.branches ≡ 0)
    (λ first. (bit_at entry.branches first ≡ 1) × ((client : ℕ) → client < first → bit_at entry.branches client ≡ 0))
    → MatchOption found ((client : ℕ) → rank (entry_perm entry client) ≤ rank perm)
    (λ first. (rank perm < rank (entry_perm entry first)) × ((client : ℕ) → client < first → rank (entry_perm entry client) ≤ rank perm))
above-nothing entry perm None none is zero = λ client.
    let rest : rank (entry_perm entry client) ≡ 0 = ap rank (nobody-recorded entry none zero client) in
    omega (arith, rest)
above-nothing entry perm (Some first) none is lowest =
    let least : rank perm ≡ 0 = ap rank is in
    let here : rank (entry_perm entry first) ≡ 1 = rank-set entry first 1 none lowest.0 in (
      omega (arith, least, here),
      λ client below.
          let rest : rank (entry_perm entry client) ≡ 0 = rank-set entry client 0 none (lowest.1 client below) in
          omega (arith, rest),
    )

-- ## Recording a permission

-- a mask without a client's bit keeps the others
cleared : (branches client other : ℕ) → branches < 2 ^ CLIENTS → client < CLIENTS → other ≢ client
    → bit_at (bit_and branches (bit_not w16 (1 * 2 ^ client % 2 ^ bits w16))) other ≡ bit_at branches other
cleared branches client other small known apart =
    elim (cases_lt other CLIENTS) [
      | inl below ↦ bit_at_clear_other w16 branches client known other below apart
      | inr past ↦
          let less = and_le_l branches (bit_not w16 (1 * 2 ^ client % 2 ^ bits w16)) in
          bit_at_above _ CLIENTS other (omega (arith, less)) past ∙ sym (bit_at_above branches CLIENTS other small past)
    ]

-- what is recorded for a client and for the others
answer : (perm : Perm) (entry entry' : Entry) (client : ℕ) → entry_perm entry' client ≡ perm
    → ((other : ℕ) → other ≢ client → entry_perm entry' other ≡ entry_perm entry other)
    → (other : ℕ) → entry_perm entry' other ≡ (if other == client then perm else entry_perm entry other)
answer perm entry entry' client own others other =
    elim (cases_eq other client) [
      | inl same ↦
          let test : (other == client) ≡ true = grind (arith, nat_tests) in
          rw (test, same) own
      | inr apart ↦
          let test : (other == client) ≡ false = grind (arith, nat_tests) in
          rw test (others other apart)
    ]

-- beside a new owner no other has a permission
beside : (entry : Entry) (client other : ℕ) → other ≢ client
    → entry_perm (record entry { owner = Some client; branches = 0 }) other ≡ NoAccess
unfolding entry_perm
beside entry client other apart = rw (is_owner-other client other apart, bit_at-zero other) refl

-- Tip for a client beside which none has a permission
pub perm_of-tip : (entry : Entry) (client : ℕ) → ((other : ℕ) → other ≢ client → entry_perm entry other ≡ NoAccess) → (other : ℕ)
    → entry_perm (record entry { owner = Some client; branches = 0 }) other ≡ (if other == client then Tip else entry_perm entry other)
perm_of-tip entry client none =
    answer Tip entry (record entry { owner = Some client; branches = 0 }) client (perm_of-owner _ client refl)
    (λ other apart. beside entry client other apart ∙ sym (none other apart))

-- Branch for a client beside which none has Tip
pub perm_of-branch : (entry : Entry) (client : ℕ) → client < CLIENTS → ((other : ℕ) → other ≢ client → entry_perm entry other ≢ Tip) → (other : ℕ)
    → entry_perm (record entry { owner = None; branches = bit_or entry.branches (1 * 2 ^ client % 2 ^ bits w16) }) other
    ≡ (if other == client then Branch else entry_perm entry other)
perm_of-branch entry client known none =
    answer Branch entry _ client (perm_of-bit _ client (λ no. cc) ∙ ap (perm_by false) (bit_at_set_same w16 entry.branches client known))
    (λ other apart.
    perm_of-bit _ other (λ no. cc)
    ∙ ap (perm_by false) (bit_at_set_other w16 entry.branches client known other apart)
    ∙ sym (perm_of-bit entry other (λ owner. none other apart (perm_of-owner entry other owner))))

-- no permission for the owner
pub perm_of-ended : (entry : Entry) (client : ℕ) → IsEntry entry → client < CLIENTS → entry.owner ≡ Some client → (other : ℕ)
    → entry_perm (record entry { owner = None; branches = bit_and entry.branches (bit_not w16 (1 * 2 ^ client % 2 ^ bits w16)) }) other
    ≡ (if other == client then NoAccess else entry_perm entry other)
perm_of-ended entry client kept known owner =
    answer NoAccess entry _ client (perm_of-bit _ client (λ no. cc) ∙ ap (perm_by false) (bit_at_clear_same w16 entry.branches client known))
    (λ other apart.
    let none : entry.branches ≡ 0 = rw owner at kept.alone in
    let zero : bit_at entry.branches other ≡ 0 = rw none (bit_at-zero other) in
    perm_of-bit _ other (λ no. cc)
    ∙ ap (perm_by false) (cleared entry.branches client other kept.branches known apart ∙ zero)
    ∙ sym (perm_of-beside entry client other kept owner apart))

-- an entry with another mask of the same bit
same_bit : (entry : Entry) (branches client : ℕ) → bit_at branches client ≡ bit_at entry.branches client
    → entry_perm (record entry { branches = branches }) client ≡ entry_perm entry client
unfolding entry_perm
same_bit entry branches client bit = ap (perm_by (is_owner entry.owner client)) bit

-- no permission for another client
pub perm_of-cleared : (entry : Entry) (client : ℕ) → IsEntry entry → client < CLIENTS → (entry.owner ≡ Some client → ⊥) → (other : ℕ)
    → entry_perm (record entry { branches = bit_and entry.branches (bit_not w16 (1 * 2 ^ client % 2 ^ bits w16)) }) other
    ≡ (if other == client then NoAccess else entry_perm entry other)
perm_of-cleared entry client kept known no_owner =
    answer NoAccess entry _ client (perm_of-bit _ client no_owner ∙ ap (perm_by false) (bit_at_clear_same w16 entry.branches client known))
    (λ other apart. same_bit entry _ other (cleared entry.branches client other kept.branches known apart))

-- ## Which clients are recorded

-- where nothing is recorded for a client his bit is not set
nothing-bit : (owns : Bool) (bit : ℕ) → bit < 2 → perm_by owns bit ≡ NoAccess → bit ≡ 0
nothing-bit true bit few nothing = let bad : Tip ≡ NoAccess = nothing in cc
nothing-bit false bit few nothing = bit-unset bit few nothing

-- and he is not the owner
not-owner : (entry : Entry) (n : ℕ) → ((client : ℕ) → n ≤ client → entry_perm entry client ≡ NoAccess)
    → IfSome entry.owner (λ owner. owner < n)
not-owner entry n nobody =
    elim entry.owner as (λ owner. entry.owner ≡ owner → IfSome owner (λ o. o < n)) [
      | None ↦ λ is. tt
      | Some owner ↦ λ is.
          elim (cases_lt owner n) [
            | inl below ↦ below
            | inr past ↦ let bad : Tip ≡ NoAccess = sym (perm_of-owner entry owner is) ∙ nobody owner past in cc
          ]
    ] refl

-- so where nothing is recorded from a number on, only the clients below it are recorded
pub of-clients : (n : ℕ) (entry : Entry) → ((client : ℕ) → n ≤ client → entry_perm entry client ≡ NoAccess) → IsOfClients n entry
unfolding entry_perm
of-clients n entry nobody = record {
  owner = not-owner entry n nobody;
  bits = λ client past.
      nothing-bit (is_owner entry.owner client) (bit_at entry.branches client) (bit_at-lt entry.branches client) (nobody client past);
}

-- and the other way round
past-clients : (n : ℕ) (entry : Entry) → IsOfClients n entry → (client : ℕ) → n ≤ client → entry_perm entry client ≡ NoAccess
unfolding entry_perm
past-clients n entry kept client past =
    let other : is_owner entry.owner client ≡ false =
    is_owner-none entry.owner client (λ is. let below : client < n = rw is at kept.owner in omega arith) in
    rw (other, kept.bits client past) refl

-- a permission for one of them leaves it so
pub of-clients-set : (n client : ℕ) (perm : Perm) (old new : Entry) → client < n → IsOfClients n old
    → ((other : ℕ) → entry_perm new other ≡ (if other == client then perm else entry_perm old other)) → IsOfClients n new
of-clients-set n client perm old new known kept perms =
    of-clients n new
    (λ other past.
    let apart : (other == client) ≡ false = ne_eqb other client (λ same. omega arith) in
    perms other ∙ rw apart (past-clients n old kept other past))
