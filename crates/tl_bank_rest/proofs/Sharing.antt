-- What the cases of the clients' shares say, and what a call leaves of one.
use Rattle.std.proofs.Common.{◌≡◌, ℕ, zero, suc, ◌<◌, ◌==◌, ◌||◌, ◌&&◌, not, Bool, true, false, List, [], ◌∷◌, ◌++◌, length, Some, None, refl, sym, ◌∙◌, ap, subst, arith, inl, inr, eq-eqb, eqb-true}
use Rattle.std.proofs.lemmas.Bool.{cases_Bool, cases_eq, ne_eqb, not-false, or_parts}
use Rattle.std.specs.Prelude.{slice_index_or}
use Rattle.std.proofs.lemmas.List.{get_or_default}
use Rattle.tl_protocol.specs.declared.event.Event.{Event}
use Rattle.tl_types.specs.Bodies.{is_a_grant}
use Rattle.tl_types.specs.declared.channel.Channel.{Channel}
use Rattle.tl_types.specs.declared.channel.Channel.TheVariants.{B, C, D, E}
use Rattle.tl_types.specs.declared.message.Body.{Body}
use Rattle.tl_types.specs.declared.ticket.Ticket.{Ticket}
use Rattle.tl_bank_spec.specs.Calls.{answer_probe_cases, shared_ticket_cases, take_grant_cases}
use Rattle.tl_bank_spec.specs.Cases.{any_body, bad_share, block_named, link_full, no_client, other_share, release_pending}
use Rattle.tl_bank_spec.specs.Refusal.{Case, first_of}
use Rattle.tl_bank_spec.specs.Share.{ShareView}
use Rattle.tl_bank_spec.specs.Steps.{Appends}
use Rattle.tl_bank_spec.specs.Tables.{copies_at}
use Rattle.tl_bank_spec.specs.View.{View}
use Rattle.tl_bank_spec.specs.declared.refusal.Refusal.TheVariants.{LinkFull, OutOfRange, ReleasePending, WrongBank}
use Rattle.tl_bank_rest.proofs.Cases.{NoneHolds}
use Rattle.tl_bank_rest.proofs.Quiet.{client-is, none-holds}
use Rattle.tl_bank_rest.specs.Shares.{AreShares, any_below, is_bad, is_other, share_in, share_of, shares_cases}

-- ## Places

-- where none of the first n fails a test, each passes
none-below : (test : ℕ → Bool) (n x : ℕ) → any_below test n ≡ false → x < n → test x ≡ false
none-below test zero x h lt = absurd (omega arith)
none-below test (suc n) x h lt =
    let both = or_parts (any_below test n) (test n) h in
    elim (cases_eq x n) [
      | inl same ↦ rw same both.1
      | inr apart ↦ none-below test n x both.0 (omega arith)
    ]

-- where each passes, none fails
pub all-pass : (test : ℕ → Bool) (n : ℕ) → ((x : ℕ) → x < n → test x ≡ false) → any_below test n ≡ false
all-pass test zero h = refl
all-pass test (suc n) h =
    let rest : any_below test n ≡ false = all-pass test n (λ x l. h x (omega arith)) in
    let last : test n ≡ false = h n (omega arith) in
    rw (rest, last) refl

-- where one fails, some do
pub one-fails : (test : ℕ → Bool) (n x : ℕ) → x < n → test x ≡ true → any_below test n ≡ true
one-fails test zero x lt h = absurd (omega arith)
one-fails test (suc n) x lt h =
    elim (cases_eq x n) [
      | inl same ↦
          let last : test n ≡ true = subst (λ (k : ℕ). test k ≡ true) same h in
          elim (cases_Bool (any_below test n)) [ inl e ↦ rw e refl | inr e ↦ rw (e, last) refl ]
      | inr apart ↦ let rest : any_below test n ≡ true = one-fails test n x (omega arith) h in rw rest refl
    ]

-- ## Shares

-- a share of this bank that is not bad is the client's
not-bad : (share : ShareView) (client number copies : ℕ)
    → (not (share.client == client) || ((share.bank == number) && not (share.count == copies))) ≡ false
    → not (share.bank == number) ≡ false → share ≡ record { client = client; bank = number; count = copies }
not-bad share client number copies bad other =
    let both = or_parts (not (share.client == client)) ((share.bank == number) && not (share.count == copies)) bad in
    let here : (share.bank == number) ≡ true = not-false (share.bank == number) other in
    let of : share.client ≡ client = eqb-true share.client client (not-false (share.client == client) both.0) in
    let bank : share.bank ≡ number = eqb-true share.bank number here in
    let counted : not (share.count == copies) ≡ false = rw here at both.1 in
    let count : share.count ≡ copies = eqb-true share.count copies (not-false (share.count == copies) counted) in
    ap (λ (x : ℕ). record { client = x; bank = share.bank; count = share.count }) of
    ∙ (ap (λ (x : ℕ). record { client = client; bank = x; count = share.count }) bank
    ∙ ap (λ (x : ℕ). record { client = client; bank = number; count = x }) count)

-- shares that no case refuses are those of the bank's clients
pub are-shares : (v : View) (shares : List ShareView) → first_of (shares_cases v shares) ≡ None → AreShares v shares
are-shares v shares h =
    let none = none-holds (shares_cases v shares) h in
    let first = or_parts (not (length shares == v.geometry.clients)) (any_below (is_bad v shares) v.geometry.clients) none.0 in
    let many : length shares ≡ v.geometry.clients =
    eqb-true (length shares) v.geometry.clients (not-false (length shares == v.geometry.clients) first.0) in
    record {
      as_many = many;
      each = λ client d lt.
          get_or_default shares client d (share_of v client) (omega (arith, many))
          ∙ not-bad (share_in v shares client) client v.number (copies_at v client)
          (none-below (is_bad v shares) v.geometry.clients client first.1 lt)
          (none-below (is_other v shares) v.geometry.clients client none.1.0 lt);
    }

-- too few or too many shares are refused
pub short_refused : (v : View) (shares : List ShareView) → (length shares ≡ v.geometry.clients → ⊥)
    → first_of (shares_cases v shares) ≡ Some OutOfRange
short_refused v shares h = let test : (length shares == v.geometry.clients) ≡ false = ne_eqb (length shares) v.geometry.clients h in rw test refl

-- a bad one is refused
pub bad_refused : (v : View) (shares : List ShareView) → any_below (is_bad v shares) v.geometry.clients ≡ true
    → first_of (shares_cases v shares) ≡ Some OutOfRange
bad_refused v shares h =
    elim (cases_Bool (length shares == v.geometry.clients)) [ inl e ↦ rw (e, h) refl | inr e ↦ rw e refl ]

-- then one of another bank is
pub other_refused : (v : View) (shares : List ShareView) → length shares ≡ v.geometry.clients
    → any_below (is_bad v shares) v.geometry.clients ≡ false → any_below (is_other v shares) v.geometry.clients ≡ true
    → first_of (shares_cases v shares) ≡ Some WrongBank
other_refused v shares many bad other =
    let test : (length shares == v.geometry.clients) ≡ true = eq-eqb (length shares) v.geometry.clients many in
    rw (test, bad, other) refl

-- no others are
pub none_refused : (v : View) (shares : List ShareView) → length shares ≡ v.geometry.clients
    → any_below (is_bad v shares) v.geometry.clients ≡ false → any_below (is_other v shares) v.geometry.clients ≡ false
    → first_of (shares_cases v shares) ≡ None
none_refused v shares many bad other =
    let test : (length shares == v.geometry.clients) ≡ true = eq-eqb (length shares) v.geometry.clients many in
    rw (test, bad, other) refl

-- the share that is found in a client's place, where there are as many as clients
share-found : (v : View) (shares : List ShareView) (client : ℕ) (share : ShareView) → length shares ≡ v.geometry.clients
    → client < v.geometry.clients → share ≡ slice_index_or shares client share → share ≡ share_in v shares client
share-found v shares client share many lt is = is ∙ get_or_default shares client share (share_of v client) (omega (arith, many))

-- what is answered of it is so of the place: that it is bad
pub bad-here : (v : View) (shares : List ShareView) (number client : ℕ) (share : ShareView) (answer t : Bool)
    → length shares ≡ v.geometry.clients → number < v.geometry.clients → client ≡ number → share ≡ slice_index_or shares number share
    → answer ≡ bad_share v client share → answer ≡ t → is_bad v shares number ≡ t
bad-here v shares number client share answer t many lt same is says e =
    ap (λ (s : ShareView). bad_share v number s) (sym (share-found v shares number share many lt is))
    ∙ (ap (λ (k : ℕ). bad_share v k share) (sym same) ∙ (sym says ∙ e))

-- and that it is of another bank
pub other-here : (v : View) (shares : List ShareView) (number : ℕ) (share : ShareView) (answer t : Bool)
    → length shares ≡ v.geometry.clients → number < v.geometry.clients → share ≡ slice_index_or shares number share
    → answer ≡ other_share v share → answer ≡ t → is_other v shares number ≡ t
other-here v shares number share answer t many lt is says e =
    ap (λ (s : ShareView). other_share v s) (sym (share-found v shares number share many lt is)) ∙ (sym says ∙ e)

-- ## One call

-- a client's share after its copies were counted anew is its own
pub own-share : (old new : View) (e : Event) (client : ℕ) (share left : ShareView) → Appends old new e → share ≡ share_of old client
    → left.client ≡ share.client → left.bank ≡ share.bank → left.count ≡ copies_at new client → left ≡ share_of new client
own-share old new e client share left a own of-same bank-same count =
    let number : new.number ≡ old.number = ap (λ (v : View). v.number) a.is in
    let of : left.client ≡ client = of-same ∙ ap (λ (s : ShareView). s.client) own in
    let bank : left.bank ≡ new.number = bank-same ∙ (ap (λ (s : ShareView). s.bank) own ∙ sym number) in
    ap (λ (x : ℕ). record { client = x; bank = left.bank; count = left.count }) of
    ∙ (ap (λ (x : ℕ). record { client = client; bank = x; count = left.count }) bank
    ∙ ap (λ (x : ℕ). record { client = client; bank = new.number; count = x }) count)

-- another client's share is as it was, where its number of copies is
pub other-share : (old new : View) (e : Event) (x : ℕ) → Appends old new e → copies_at new x ≡ copies_at old x
    → share_of new x ≡ share_of old x
other-share old new e x a copies =
    let number : new.number ≡ old.number = ap (λ (v : View). v.number) a.is in
    ap (λ (n : ℕ). record { client = x; bank = n; count = copies_at new x }) number
    ∙ ap (λ (n : ℕ). record { client = x; bank = old.number; count = n }) copies

-- ## The client's place

-- the client of a ticket that no case refuses, with a share, is there
shared-client : (v : View) (ticket : Ticket) (share : ShareView) (channel : Channel) (kind : Body → Bool) (more : List Case)
    → first_of (shared_ticket_cases v ticket share channel kind ++ more) ≡ None → ticket.client < v.geometry.clients
shared-client v ticket share channel kind more none =
    let f : NoneHolds (shared_ticket_cases v ticket share channel kind ++ more) =
    none-holds (shared_ticket_cases v ticket share channel kind ++ more) none in
    client-is v ticket.client (or_parts (no_client v ticket.client) (bad_share v ticket.client share) f.0).0

-- of a Grant
pub grant-client : (v : View) (ticket : Ticket) (share : ShareView) → first_of (take_grant_cases v ticket share) ≡ None
    → ticket.client < v.geometry.clients
grant-client v ticket share none = shared-client v ticket share D is_a_grant ((link_full v ticket.client E, LinkFull) ∷ []) none

-- of a Probe
pub probe-client : (v : View) (ticket : Ticket) (share : ShareView) → first_of (answer_probe_cases v ticket share) ≡ None
    → ticket.client < v.geometry.clients
probe-client v ticket share none =
    shared-client v ticket share B any_body
    ((release_pending v ticket.client (block_named v ticket B), ReleasePending) ∷ (link_full v ticket.client C, LinkFull) ∷ []) none

-- a client's place is among the shares
pub place-there : (v : View) (shares : List ShareView) (client place : ℕ) → AreShares v shares → client < v.geometry.clients
    → place ≡ client → place < length shares
place-there v shares client place h lt e = let many = h.as_many in omega arith

-- and has its share
pub place-own : (v : View) (shares : List ShareView) (client place : ℕ) (d : ShareView) → AreShares v shares
    → client < v.geometry.clients → place ≡ client → slice_index_or shares place d ≡ share_of v client
place-own v shares client place d h lt e = ap (λ (k : ℕ). slice_index_or shares k d) e ∙ h.each client d lt
