-- What several calls received, and the shares beside it.
use Rattle.std.proofs.Common.{◌≡◌, ◌≢◌, ℕ, ◌+◌, ◌<◌, ◌≤◌, ◌⊎◌, true, List, [], ◌∷◌, ◌++◌, length, set, Option, Some, None, refl, sym, ◌∙◌, ap, subst, arith, inl, inr, append_assoc, length-append}
use Rattle.std.specs.Prelude.{IsSome, Result, Ok, Err, OnErr, OnOk}
use Rattle.std.proofs.lemmas.Bool.{cases_eq}
use Rattle.std.proofs.lemmas.List.{append-nil, get_or-set_other, get_or-set_same, length-set}
use Rattle.std.proofs.lemmas.List.Elements.{All-append, All-cons, All-nil}
use Rattle.tl_map.specs.Numbers.{Numbers}
use Rattle.tl_protocol.specs.Work.{is_receiving}
use Rattle.tl_protocol.specs.declared.event.Event.{Event}
use Rattle.tl_bank_spec.specs.Refusal.{IsRefused}
use Rattle.tl_bank_spec.specs.Share.{ShareView}
use Rattle.tl_bank_spec.specs.Tables.{copies_at}
use Rattle.tl_bank_spec.specs.View.{View}
use Rattle.tl_bank_spec.specs.declared.refusal.Refusal.{Refusal}
use Rattle.tl_bank_rest.specs.Rest.{Receives, ReceivesOne, work_at}
use Rattle.tl_bank_rest.specs.Shares.{AreShares, share_of}

-- ## Events

-- nothing is received at first
pub none-received : (v : View) → Receives v v []
none-received v = record {
  is = ap (λ (log : List Event). record v { log = log }) (sym (append-nil v.log));
  room = omega arith;
  each = All-nil (λ e. is_receiving e ≡ true);
  few = omega arith;
}

-- a bank that took more after it took some: only the log's end, the room, the registers and the ways are others
along-is : (old mid new : View) (xs ys : List Event)
    → mid ≡ record old { log = old.log ++ xs; room = mid.room; registers = mid.registers; ways = mid.ways }
    → new ≡ record mid { log = mid.log ++ ys; room = new.room; registers = new.registers; ways = new.ways }
    → new ≡ record old { log = old.log ++ (xs ++ ys); room = new.room; registers = new.registers; ways = new.ways }
along-is old mid new xs ys e f =
    let F : View → View = λ v. record v { log = v.log ++ ys; room = new.room; registers = new.registers; ways = new.ways } in
    let G : List Event → View = λ log. record old { log = log; room = new.room; registers = new.registers; ways = new.ways } in
    f ∙ (ap F e ∙ ap G (append_assoc old.log xs ys))

-- what came first, and then
pub more-received : (old mid new : View) (xs ys : List Event) → Receives old mid xs → Receives mid new ys → Receives old new (xs ++ ys)
more-received old mid new xs ys h g =
    let long : length (xs ++ ys) ≡ length xs + length ys = length-append xs ys in
    record {
      is = along-is old mid new xs ys h.is g.is;
      room = omega (arith, long, h.room, g.room);
      each = All-append (λ e. is_receiving e ≡ true) xs ys h.each g.each;
      few = omega (arith, long, h.few, g.few);
    }

-- one event
pub one-received : (old new : View) (one : ReceivesOne old new) → Receives old new (one.event ∷ [])
one-received old new one = record {
  is = one.serves.is;
  room = omega (arith, one.serves.room);
  each = All-cons (λ e. is_receiving e ≡ true) one.event [] one.receiving (All-nil (λ e. is_receiving e ≡ true));
  few = omega (arith, one.less);
}

-- ## Shares

-- the shares of a bank that has as many clients and counts the same copies are those of another
pub shares-stay : (old new : View) (shares : List ShareView) → new.geometry ≡ old.geometry
    → ((client : ℕ) → share_of new client ≡ share_of old client) → AreShares old shares → AreShares new shares
shares-stay old new shares geometry same h =
    let clients : new.geometry.clients ≡ old.geometry.clients = ap (λ (g : Numbers). g.clients) geometry in
    record {
      as_many = h.as_many ∙ sym clients;
      each = λ client d lt. h.each client d (omega (arith, clients)) ∙ sym (same client);
    }

-- with one share changed, which is then the client's
pub shares-set : (old new : View) (shares : List ShareView) (client place : ℕ) (share : ShareView) → new.geometry ≡ old.geometry
    → client < old.geometry.clients → place ≡ client → share ≡ share_of new client
    → ((x : ℕ) → x ≢ client → share_of new x ≡ share_of old x) → AreShares old shares → AreShares new (set shares place share)
shares-set old new shares client place share geometry there at own others h =
    let clients : new.geometry.clients ≡ old.geometry.clients = ap (λ (g : Numbers). g.clients) geometry in
    let inside : client < length shares = let many = h.as_many in omega arith in
    let P : ℕ → Type 0 = λ k. AreShares new (set shares k share) in
    subst P (sym at) (record {
      as_many = length-set shares client share ∙ (h.as_many ∙ sym clients);
      each = λ x d lt. elim (cases_eq x client) [
        | inl e ↦ rw e (get_or-set_same shares client share d inside ∙ own)
        | inr apart ↦
            get_or-set_other shares client x share d apart ∙ (h.each x d (omega (arith, clients)) ∙ sym (others x apart))
      ];
    })

-- a call that takes no share leaves them, whatever it answers
pub shares-pass : (old new : View) (shares : List ShareView) (answer : Result (Unit {0}) Refusal) → OnErr answer (new ≡ old)
    → OnOk answer (ReceivesOne old new) → OnOk answer ((client : ℕ) → copies_at new client ≡ copies_at old client)
    → AreShares old shares → AreShares new shares
shares-pass old new shares (Err e) same receives counts h = subst (λ (v : View). AreShares v shares) (sym same) h
shares-pass old new shares (Ok x) same receives counts h =
    let geometry : new.geometry ≡ old.geometry = ap (λ (v : View). v.geometry) receives.serves.is in
    let number : new.number ≡ old.number = ap (λ (v : View). v.number) receives.serves.is in
    shares-stay old new shares geometry (λ client.
    ap (λ (n : ℕ). record { client = client; bank = n; count = copies_at new client }) number
    ∙ ap (λ (n : ℕ). record { client = client; bank = old.number; count = n }) (counts client))
    h

-- ## A bank on its way to rest

-- what was received since a bank was old: nothing, or less is owed; and these are its clients' shares
pub record Rests (old new : View) (given : List ShareView) : Type 0 where
  pub events : List Event
  pub received : Receives old new events
  pub moved : (new ≡ old) ⊎ (work_at new < work_at old)
  pub shares : AreShares new given

-- at first
pub rests-first : (v : View) (shares : List ShareView) → AreShares v shares → Rests v v shares
rests-first v shares h = record { events = []; received = none-received v; moved = inl refl; shares = h }

-- with one call more
pub rests-more : (old mid new : View) (before after : List ShareView) → Rests old mid before → ReceivesOne mid new → AreShares new after
    → Rests old new after
rests-more old mid new before after h one shares =
    let less : work_at new < work_at mid = one.less in
    let few = h.received.few in
    record {
      events = h.events ++ one.event ∷ [];
      received = more-received old mid new h.events (one.event ∷ []) h.received (one-received mid new one);
      moved = inr (omega arith);
      shares = shares;
    }

-- with a call more that was refused
pub rests-still : (old mid new : View) (before after : List ShareView) → Rests old mid before → new ≡ mid → AreShares new after
    → Rests old new after
rests-still old mid new before after h same shares =
    let P : View → Type 0 = λ v. Rests old v after in
    let at : AreShares mid after = subst (λ (v : View). AreShares v after) same shares in
    subst P (sym same) (record { events = h.events; received = h.received; moved = h.moved; shares = at })

-- what came before a call and in it
pub join-received : (old mid new : View) → ((events : List Event) × Receives old mid events)
    → ((events : List Event) × Receives mid new events) → (events : List Event) × Receives old new events
join-received old mid new h g = (h.0 ++ g.0, more-received old mid new h.0 g.0 h.1 g.1)

-- with a call more that received something
pub rests-along : (old mid new : View) (before after : List ShareView) → Rests old mid before
    → ((events : List Event) × Receives mid new events) → work_at new < work_at mid → AreShares new after → Rests old new after
rests-along old mid new before after h g less shares =
    let few = h.received.few in
    record {
      events = h.events ++ g.0;
      received = more-received old mid new h.events g.0 h.received g.1;
      moved = inr (omega arith);
      shares = shares;
    }

-- ## What is answered

-- the log is as long as it was, with what came
pub received-grows : (old new : View) → ((events : List Event) × Receives old new events) → length old.log ≤ length new.log
received-grows old new h =
    let is : length new.log ≡ length (old.log ++ h.0) = ap (λ (v : View). length v.log) h.1.is in
    let long : length (old.log ++ h.0) ≡ length old.log + length h.0 = length-append old.log h.0 in
    omega arith

-- a refusal that is the first whose case holds
pub first-refused : (refusal : Option Refusal) (room : ℕ) (answer : Refusal) → refusal ≡ Some answer → IsRefused refusal room answer
first-refused None room answer e = cc
first-refused (Some refusal) room answer e = cc

-- where no case holds, want of memory is the one that is left
pub memory-refused : (refusal : Option Refusal) (room : ℕ) (answer : Refusal) → refusal ≡ None → IsRefused None room answer
    → IsRefused refusal room answer
memory-refused None room answer e h = h
memory-refused (Some refusal) room answer e h = cc

-- a refusal that is some is not none
pub some-none : (refusal : Option Refusal) (answer : Refusal) → refusal ≡ Some answer → refusal ≡ None → ⊥
some-none refusal answer e h = cc

-- want of memory at a bank that a call left as it was
pub refused-at : (mid new : View) (answer : Refusal) → new ≡ mid → IsRefused None mid.room answer → IsRefused None new.room answer
refused-at mid new answer e h = (h.0, ap (λ (v : View). v.room) e ∙ h.1)

-- where no case holds, none of them is some
pub none-some : (refusal : Option Refusal) → refusal ≡ None → IsSome refusal → ⊥
none-some None e h = cc
none-some (Some refusal) e h = cc
