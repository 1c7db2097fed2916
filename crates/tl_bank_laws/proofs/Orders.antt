-- What keeps the order of a set's ways.
use Rattle.std.proofs.Common.{◌≡◌, ℕ, Bool, true, false, List, [], ◌∷◌, ◌++◌, length, Option, Some, refl, sym, ◌∙◌, arith, inl, inr}
use Rattle.std.proofs.lemmas.Bool.{cases_Bool}
use Rattle.tl_protocol.specs.declared.event.Event.{Event}
use Rattle.tl_protocol.specs.declared.event.Event.TheVariants.{Load, Store, SendAcquire, SendRelease, AnswerProbe, TakeGrant, TakeReleaseAck, AcceptAcquire, SendProbe, TakeC, SendGrant, TakeGrantAck, SendGet, Serve, TakeData, Drop, SendPut, TakePutAck}
use Rattle.tl_registers.specs.VictimWay.{grants_block, block_in, EachBefore, IsNoLater, IsInOrder}
use Rattle.tl_registers.proofs.Order.{other-events-keep-order}

-- the event grants nothing
abbrev pub GrantsNothing : Event → Type 0
GrantsNothing (SendGrant c block) = ⊥
GrantsNothing e = Unit {0}

-- so it grants no block
pub grants-none : (block : ℕ) (e : Event) → GrantsNothing e → grants_block block e ≡ false
grants-none block (Load access) h = refl
grants-none block (Store access) h = refl
grants-none block (SendAcquire c b grow) h = refl
grants-none block (SendRelease c b prune) h = refl
grants-none block (AnswerProbe c b) h = refl
grants-none block (TakeGrant c b) h = refl
grants-none block (TakeReleaseAck c b) h = refl
grants-none block (AcceptAcquire c b) h = refl
grants-none block (SendProbe c b cap) h = refl
grants-none block (TakeC c b) h = refl
grants-none block (SendGrant c b) h = absurd h
grants-none block (TakeGrantAck c b) h = refl
grants-none block (SendGet b) h = refl
grants-none block (Serve b) h = refl
grants-none block (TakeData b) h = refl
grants-none block (Drop b) h = refl
grants-none block (SendPut b) h = refl
grants-none block (TakePutAck b) h = refl

-- what follows from a relation of each to all after it
before-follows : (R Q : ℕ → ℕ → Type 0) (xs : List ℕ) → ((w u : ℕ) → R w u → Q w u) → EachBefore R xs → EachBefore Q xs
before-follows R Q [] f h = tt
before-follows R Q (x ∷ rest) f h = (λ u m. f x u (h.0 u m), before-follows R Q rest f h.1)

-- An order is one of later slots, and of a later filling: each block that lies in a way that is not filling then lay there
-- before, and the way was not filling.
pub order-transfers : (slots later : List (Option ℕ)) (filling filling_then : ℕ → Bool) (log : List Event) (order : List ℕ)
    → length later ≡ length slots
    → ((w block : ℕ) → block_in later w ≡ Some block → filling_then w ≡ false → (block_in slots w ≡ Some block) × (filling w ≡ false))
    → IsInOrder slots filling log order → IsInOrder later filling_then log order
order-transfers slots later filling filling_then log order long was h = record {
  rises = before-follows (IsNoLater slots filling log) (IsNoLater later filling_then log) order
      (λ w u r block other f g here there.
      let a = was w block here f in
      let b = was u other there g in
      r block other a.1 b.1 a.0 b.0)
      h.rises;
  all = λ w l. h.all w (omega (arith, long));
  only = λ w m. omega (arith, long, h.only w m);
}

-- An order stays one where each way in which a block lies fills on if it filled before.
pub order-fills : (slots : List (Option ℕ)) (filling filling_then : ℕ → Bool) (log : List Event) (order : List ℕ)
    → ((w block : ℕ) → block_in slots w ≡ Some block → filling w ≡ true → filling_then w ≡ true)
    → IsInOrder slots filling log order → IsInOrder slots filling_then log order
order-fills slots filling filling_then log order fills h =
    order-transfers slots slots filling filling_then log order refl
    (λ w block here f. (
      here,
      elim (cases_Bool (filling w)) [
        | inl t ↦ let bad : true ≡ false = sym (fills w block here t) ∙ f in cc
        | inr t ↦ t
      ],
    ))
    h

-- An event that grants nothing keeps it.
pub order-next : (slots : List (Option ℕ)) (filling filling_then : ℕ → Bool) (log : List Event) (order : List ℕ) (e : Event)
    → GrantsNothing e → ((w block : ℕ) → block_in slots w ≡ Some block → filling w ≡ true → filling_then w ≡ true)
    → IsInOrder slots filling log order → IsInOrder slots filling_then (log ++ e ∷ []) order
order-next slots filling filling_then log order e none fills h =
    other-events-keep-order slots filling_then log order e (order-fills slots filling filling_then log order fills h)
    (λ w block here. grants-none block e none)
