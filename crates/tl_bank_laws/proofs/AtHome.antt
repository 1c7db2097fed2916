-- The blocks that are found way by way are those of which home has a copy.
use Rattle.std.proofs.Common.{◌≡◌, ◌≢◌, ℕ, zero, suc, ◌+◌, ◌*◌, ◌/◌, ◌%◌, ◌<◌, ◌≤◌, ◌==◌, Bool, true, false, if◌then◌else◌, List, [], ◌∷◌, ◌++◌, length, length-append, suc-mul, Option, Some, None, is_none, is_some, refl, sym, ◌∙◌, ap, subst, arith, eq-eqb, inl, inr}
use Rattle.std.specs.Prelude.{All, nat_lt, sum_by}
use Rattle.std.specs.Option.{option_map}
use Rattle.std.specs.List.Sorted.{IsNonDecreasing}
use Rattle.std.proofs.lemmas.Bool.{cases_eq, cases_lt, ne_eqb, lt-ltb, le-ltb}
use Rattle.std.proofs.lemmas.Nat.{div-mul-add, mod-mul-add, mul-le}
use Rattle.std.proofs.lemmas.List.Sums.{sum_by-append, sum_by-cons}
use Rattle.std.proofs.lemmas.Option.{same_Some}
use Rattle.tl_types.specs.declared.permission.Perm.TheVariants.{None as p_None}
use Rattle.tl_map.specs.Places.{set_of}
use Rattle.tl_map.proofs.PlaceLaws.{some_sets, set_of-lt}
use Rattle.tl_protocol.specs.Ledger.{is_recorded, one_if, count_clients, count_pairs}
use Rattle.tl_protocol.specs.declared.client.Client.{Client}
use Rattle.tl_protocol.specs.declared.home.Line.{Line}
use Rattle.tl_bank_home.specs.Homes.{HomeState, line_in, recorded_in}
use Rattle.tl_bank_home.proofs.DirectoryLaws.{way_of-no_line, recorded_of-none}
use Rattle.tl_bank_spec.specs.View.{View, shape_of, end_at}
use Rattle.tl_bank_spec.specs.Own.{IsOwn, way_at}
use Rattle.tl_bank_spec.specs.Views.{not_own, is_at_home, passing_below, blocks_at_home, blocks_below, pairs_below}
use Rattle.tl_bank_spec.specs.Ways.{slot_at}
use Rattle.tl_bank_laws.specs.Layers.{Layers}
use Rattle.tl_bank_laws.specs.Means.{Means}
use Rattle.tl_bank_laws.specs.Found.{times, one_of, comes_before, lies_before, AreFound}
use Rattle.tl_bank_laws.proofs.Rising.{times-push, rising-same, passing-all, passing-rises, passing-times, passing-none}
use Rattle.tl_bank_laws.proofs.Slots.{slot-lies, lies-slot}
use Rattle.tl_bank_laws.proofs.Views.{own-is, own-not}

-- ## The places that were looked at

-- the list with one more number, where there is one
abbrev pub with_one : List ℕ → Option ℕ → List ℕ
with_one found None = found
with_one found (Some x) = found ++ x ∷ []

-- nothing lies before the first place
pub found-first : (v : View) → AreFound v 0 []
found-first v = record {
  few = omega arith;
  each = λ b. first (not_own v b) b (way_at v b);
}
  where
    first : (t : Bool) (b : ℕ) (o : Option ℕ)
        → 0 ≡ one_of (if t then false else comes_before (set_of v.geometry b * v.geometry.ways) 0 o)
    first true b o = refl
    first false b None = refl
    first false b (Some way) = ap one_of (sym (le-ltb (set_of v.geometry b * v.geometry.ways + way) 0 (omega arith)))

-- a block of a way, and none other, comes before the next place but not before its own
next-here : (first way place : ℕ) → first + way ≡ place
    → one_of (nat_lt (first + way) (place + 1)) ≡ one_of (nat_lt (first + way) place) + 1
next-here first way place e =
    let here : nat_lt (first + way) place ≡ false = le-ltb (first + way) place (omega arith) in
    let next : nat_lt (first + way) (place + 1) ≡ true = lt-ltb (first + way) (place + 1) (omega arith) in
    rw (here, next) refl

next-there : (first way place : ℕ) → first + way ≢ place
    → nat_lt (first + way) (place + 1) ≡ nat_lt (first + way) place
next-there first way place other =
    elim (cases_lt (first + way) place) [
      | inl less ↦ lt-ltb (first + way) (place + 1) (omega arith) ∙ sym (lt-ltb (first + way) place less)
      | inr more ↦ le-ltb (first + way) (place + 1) (omega arith) ∙ sym (le-ltb (first + way) place more)
    ]

-- ## One more place

-- two ways of sets that have one place are one way of one set
same-place : (set other way lies ways : ℕ) → way < ways → lies < ways → other * ways + lies ≡ set * ways + way → (other ≡ set) × (lies ≡ way)
same-place set other way lies ways l k e = (
  sym (div-mul-add other ways lies k) ∙ ap (λ n. n / ways) e ∙ div-mul-add set ways way l,
  sym (mod-mul-add other ways lies k) ∙ ap (λ n. n % ways) e ∙ mod-mul-add set ways way l,
)

-- the block that lies in the way of a place comes before the next
before-here : (v : View) (set way place b : ℕ) → IsOwn v.geometry v.number b → set_of v.geometry b ≡ set → way_at v b ≡ Some way
    → set * v.geometry.ways + way ≡ place → one_of (lies_before v (place + 1) b) ≡ one_of (lies_before v place b) + 1
before-here v set way place b own in_set lies e =
    rw (own-not v b own, lies, in_set) (next-here (set * v.geometry.ways) way place e)

-- of a block that lies somewhere else the same holds as before
before-some : (v : View) (h : Layers) (set way place b w : ℕ) → Means v h → way < v.geometry.ways → set * v.geometry.ways + way ≡ place
    → IsOwn v.geometry v.number b → way_at v b ≡ Some w → slot_at v set way ≢ Some b
    → comes_before (set_of v.geometry b * v.geometry.ways) (place + 1) (Some w) ≡ comes_before (set_of v.geometry b * v.geometry.ways) place (Some w)
before-some v h set way place b w m l e own lies other =
    next-there (set_of v.geometry b * v.geometry.ways) w place
    (λ here.
    let same = same-place set (set_of v.geometry b) way w v.geometry.ways l (m.ways.inside b w own lies) (here ∙ sym e) in
    let at : way_at v b ≡ Some way = lies ∙ ap Some same.1 in
    other (lies-slot v set way b own same.0 at (λ a own_a in_a at_a. m.ways.once a b way own_a own (in_a ∙ sym same.0) at_a at)))

-- a block that does not lie in the way of a place comes before the next just where it came before it
before-other : (v : View) (h : Layers) (set way place b : ℕ) → Means v h → way < v.geometry.ways → set * v.geometry.ways + way ≡ place
    → slot_at v set way ≢ Some b → lies_before v (place + 1) b ≡ lies_before v place b
before-other v h set way place b m l e other = by_own (not_own v b) refl
  where
    by_way : IsOwn v.geometry v.number b → (o : Option ℕ) → way_at v b ≡ o
        → comes_before (set_of v.geometry b * v.geometry.ways) (place + 1) o ≡ comes_before (set_of v.geometry b * v.geometry.ways) place o
    by_way own None lies = refl
    by_way own (Some w) lies = before-some v h set way place b w m l e own lies other

    by_own : (t : Bool) → not_own v b ≡ t
        → (if t then false else comes_before (set_of v.geometry b * v.geometry.ways) (place + 1) (way_at v b))
        ≡ (if t then false else comes_before (set_of v.geometry b * v.geometry.ways) place (way_at v b))
    by_own true o = refl
    by_own false o = by_way (own-is v b o) (way_at v b) refl

-- how often a block stands among those found, once one more place was looked at
found-times : (v : View) (h : Layers) (set way place : ℕ) (found : List ℕ) (o : Option ℕ) → Means v h → way < v.geometry.ways
    → set * v.geometry.ways + way ≡ place → slot_at v set way ≡ o → AreFound v place found
    → (b : ℕ) → times b (with_one found o) ≡ one_of (lies_before v (place + 1) b)
found-times v h set way place found None m l e at before b =
    before.each b ∙ ap one_of (sym (before-other v h set way place b m l e (λ same. let bad : None ≡ Some b = sym at ∙ same in cc)))
found-times v h set way place found (Some x) m l e at before b =
    let push = times-push b x found in
    let so_far = before.each b in
    let lies = slot-lies v set way x at in
    elim (cases_eq x b) [
      | inl same ↦
          let one : one_of (x == b) ≡ 1 = ap one_of (eq-eqb x b same) in
          let next : one_of (lies_before v (place + 1) x) ≡ one_of (lies_before v place x) + 1 =
          before-here v set way place x lies.0 lies.1 lies.2 e in
          let here : one_of (lies_before v (place + 1) b) ≡ one_of (lies_before v place b) + 1 =
          subst (λ (k : ℕ). one_of (lies_before v (place + 1) k) ≡ one_of (lies_before v place k) + 1) same next in
          omega arith
      | inr differ ↦
          let none : one_of (x == b) ≡ 0 = ap one_of (ne_eqb x b differ) in
          let stays : one_of (lies_before v (place + 1) b) ≡ one_of (lies_before v place b) =
          ap one_of (before-other v h set way place b m l e (λ same. differ (same_Some x b (sym at ∙ same)))) in
          omega arith
    ]

-- one more was found, at most
found-few : (found : List ℕ) (o : Option ℕ) (place : ℕ) → length found ≤ place → length (with_one found o) ≤ place + 1
found-few found None place l = omega arith
found-few found (Some x) place l = let one = length-append found (x ∷ []) in omega arith

-- one more place
pub found-next : (v : View) (h : Layers) (set way place : ℕ) (found : List ℕ) (o : Option ℕ) → Means v h → way < v.geometry.ways
    → set * v.geometry.ways + way ≡ place → o ≡ slot_at v set way → AreFound v place found → AreFound v (place + 1) (with_one found o)
found-next v h set way place found o m l e at before = record {
  few = found-few found o place before.few;
  each = found-times v h set way place found o m l e (sym at) before;
}

-- ## All places

-- home has a copy just where the block lies somewhere
line-way : (line : Option Line) (way : Option ℕ) → is_none line ≡ is_none way
    → is_some (option_map (λ (x : Line). x.dirty) line) ≡ is_some way
line-way None None e = refl
line-way None (Some way) e = cc
line-way (Some line) None e = cc
line-way (Some line) (Some way) e = refl

-- a way of a set comes before the end of all
before-end : (set sets way ways : ℕ) → set < sets → way < ways → set * ways + way < sets * ways
before-end set sets way ways l k =
    let wide : suc set * ways ≤ sets * ways = mul-le (suc set) ways sets ways (omega arith) (omega arith) in
    let split = suc-mul set ways in
    omega arith

-- a block that lies somewhere comes before the end of all places
pub before-all : (v : View) (h : Layers) (b : ℕ) → Means v h → lies_before v (v.geometry.sets * v.geometry.ways) b ≡ is_at_home v b
before-all v h b m = by_own (not_own v b) refl
  where
    by_way : IsOwn v.geometry v.number b → (o : Option ℕ) → way_at v b ≡ o
        → comes_before (set_of v.geometry b * v.geometry.ways) (v.geometry.sets * v.geometry.ways) o ≡ is_some o
    by_way own None lies = refl
    by_way own (Some w) lies =
        lt-ltb (set_of v.geometry b * v.geometry.ways + w) (v.geometry.sets * v.geometry.ways)
        (before-end (set_of v.geometry b) v.geometry.sets w v.geometry.ways
        (set_of-lt v.geometry b (some_sets v.geometry m.geometry)) (m.ways.inside b w own lies))

    by_own : (t : Bool) → not_own v b ≡ t
        → (if t then false else comes_before (set_of v.geometry b * v.geometry.ways) (v.geometry.sets * v.geometry.ways) (way_at v b))
        ≡ is_some (if t then None else option_map (λ (line : Line). line.dirty) (end_at v b).home)
    by_own true o = refl
    by_own false o =
        by_way (own-is v b o) (way_at v b) refl
        ∙ sym (line-way (end_at v b).home (way_at v b) (m.ways.holds b (own-is v b o)))

-- a block that is not of the memory is not at home
past-none : (v : View) (b : ℕ) → v.geometry.memory_blocks ≤ b → is_at_home v b ≡ false
past-none v b l = by_own (not_own v b) refl
  where
    by_own : (t : Bool) → not_own v b ≡ t
        → is_some (if t then None else option_map (λ (line : Line). line.dirty) (end_at v b).home) ≡ false
    by_own true o = refl
    by_own false o = let own = own-is v b o in absurd (omega (arith, own.0))

-- once all places were looked at, each block at home was found once
pub all-found : (v : View) (h : Layers) (found : List ℕ) → Means v h → AreFound v (v.geometry.sets * v.geometry.ways) found
    → (b : ℕ) → times b found ≡ one_of (is_at_home v b)
all-found v h found m all b = all.each b ∙ ap one_of (before-all v h b m)

-- rising numbers of which each block at home is one, once, are the blocks at home
pub at_home-is : (v : View) (xs : List ℕ) → IsNonDecreasing xs → ((b : ℕ) → times b xs ≡ one_of (is_at_home v b)) → xs ≡ blocks_at_home v
at_home-is v xs up each =
    rising-same xs (blocks_at_home v) up (passing-rises (is_at_home v) v.geometry.memory_blocks)
    (λ b.
    elim (cases_lt b v.geometry.memory_blocks) [
      | inl l ↦ each b ∙ sym (passing-times (is_at_home v) v.geometry.memory_blocks b l)
      | inr l ↦ each b ∙ ap one_of (past-none v b l) ∙ sym (passing-none (is_at_home v) v.geometry.memory_blocks b l)
    ])

-- a block at home is one of the bank
at_home-own : (v : View) (b : ℕ) → is_at_home v b ≡ true → IsOwn v.geometry v.number b
at_home-own v b here = by_own (not_own v b) refl
  where
    by_own : (t : Bool) → not_own v b ≡ t → IsOwn v.geometry v.number b
    by_own true o = let none : is_at_home v b ≡ false = rw o refl in cc
    by_own false o = own-is v b o

-- so are all of them
pub all-own : (v : View) → All (λ b. IsOwn v.geometry v.number b) (blocks_at_home v)
all-own v = passing-all (λ b. IsOwn v.geometry v.number b) (is_at_home v) v.geometry.memory_blocks (at_home-own v)

-- ## What home records of them

-- of a block that home lacks it records nothing
unrecorded : (home : HomeState) (c b : ℕ) → line_in home b ≡ None → recorded_in home c b ≡ p_None
unfolding line_in recorded_in
unrecorded home c b none = recorded_of-none home.directory c b (way_of-no_line home.directory b none)

-- then no client counts
none-recorded : (n : ℕ) (client : ℕ → Client) → ((c : ℕ) → (client c).recorded ≡ p_None) → count_clients is_recorded n client ≡ 0
none-recorded zero client none = refl
none-recorded (suc n) client none =
    let first : one_if (is_recorded (client n)) ≡ 0 = rw (none n) refl in
    let rest = none-recorded n client none in
    omega arith

-- for how many clients home records a block
abbrev pub recorders : View → ℕ → ℕ
recorders v b = count_clients is_recorded v.geometry.clients (end_at v b).client

-- where home lacks the block, for none
lacks-none : (v : View) (h : Layers) (b : ℕ) → Means v h → IsOwn v.geometry v.number b → (end_at v b).home ≡ None → recorders v b ≡ 0
lacks-none v h b m own lacks =
    let home = m.home b own in
    none-recorded v.geometry.clients (end_at v b).client
    (λ c. sym (home.recorded c) ∙ unrecorded h.home c b (home.line ∙ lacks))

-- one more block counts on both sides, or on none
sum-step : (v : View) (n : ℕ) (xs bs : List ℕ) (t u : Bool) → (t ≡ true → u ≡ false) → (t ≡ false → u ≡ false → recorders v n ≡ 0)
    → sum_by (recorders v) xs ≡ count_pairs is_recorded (shape_of v.geometry) (end_at v) bs
    → sum_by (recorders v) (if u then xs ++ n ∷ [] else xs)
    ≡ count_pairs is_recorded (shape_of v.geometry) (end_at v) (if t then bs else n ∷ bs)
sum-step v n xs bs true true other none so_far = let bad = other refl in cc
sum-step v n xs bs true false other none so_far = so_far
sum-step v n xs bs false true other none so_far =
    let whole = sum_by-append (recorders v) xs (n ∷ []) in
    let one = sum_by-cons (recorders v) n [] in
    omega arith
sum-step v n xs bs false false other none so_far = let zero_of = none refl refl in omega arith

-- a test of what may be absent
no-line : (line : Option Line) → is_some (option_map (λ (x : Line). x.dirty) line) ≡ false → line ≡ None
no-line None h = refl
no-line (Some line) h = cc

-- the blocks at home below a number have all that home records below it
pub recorded-at_home : (v : View) (h : Layers) (n : ℕ) → Means v h
    → sum_by (recorders v) (passing_below (is_at_home v) n) ≡ pairs_below is_recorded v n
recorded-at_home v h zero m = refl
recorded-at_home v h (suc n) m =
    sum-step v n (passing_below (is_at_home v) n) (blocks_below v n) (not_own v n) (is_at_home v n)
    (λ other. rw other refl)
    (λ own away. lacks-none v h n m (own-is v n own) (no-line (end_at v n).home (rw own at away)))
    (recorded-at_home v h n m)
