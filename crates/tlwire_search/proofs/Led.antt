-- A map of the state where a run leads.
use Rattle.std.proofs.Common.{◌≡◌, ◌≢◌, ◌<◌, ℕ, Bool, cond, List, [], ◌∷◌, ◌++◌, refl, sym, ◌∙◌, ap, subst, inl, inr, eq-eqb}
use Rattle.std.proofs.lemmas.Bool.{cases_eq, ne_eqb}
use Rattle.tl_protocol.specs.declared.event.Event.{Event}
use Rattle.tl_protocol.specs.declared.shape.Shape.{Shape}
use Rattle.tl_protocol.specs.Protocol.{Block, May, after, block_of}
use Rattle.tl_protocol.specs.Runs.{MayNext, after_next, end_of}
use Rattle.tl_protocol.proofs.Runs.{runs_grow_by_one}
use Rattle.tl_rules.specs.Plain.{IsReset, IsStep, state_of_plain}
use Rattle.tl_rules.specs.PlainState.{PlainState}
use Rattle.tlwire_search.specs.Led.{LeadsTo, own_block}

-- on its own block an event leaves what it does to that block
own_next : (shape : Shape) (s : ℕ → Block) (e : Event) → after_next shape s e (block_of shape e) ≡ after shape (s (block_of shape e)) e
own_next shape s e =
    ap (λ (t : Bool). cond t (after shape (s (block_of shape e)) e) (s (block_of shape e)))
    (eq-eqb (block_of shape e) (block_of shape e) refl)

-- an event leaves the other blocks
other_next : (shape : Shape) (s : ℕ → Block) (e : Event) (block : ℕ) → block ≢ block_of shape e → after_next shape s e block ≡ s block
other_next shape s e block other =
    ap (λ (t : Bool). cond t (after shape (s block) e) (s block)) (ne_eqb block (block_of shape e) other)

-- no event leads to reset
pub led_at_reset : (shape : Shape) (image : List ℕ) (p : PlainState) → IsReset shape image p → LeadsTo shape image [] p
led_at_reset shape image p r = record {
  same_shape = r.same_shape;
  lawful = tt;
  ended = λ block lt. sym (r.blocks block lt);
}

module _ (image : List ℕ) (run : List Event) (p : PlainState) (f : LeadsTo p.shape image run p) where
  same_block : (e : Event) → block_of p.shape e < p.shape.blocks → end_of p.shape image run (block_of p.shape e) ≡ own_block p e
  same_block e lt = f.ended (block_of p.shape e) lt

  -- one more event that is carried out
  carried : (e : Event) (new : PlainState) → IsStep p new e → LeadsTo p.shape image (run ++ e ∷ []) new
  carried e new k =
      let grow = (runs_grow_by_one p.shape image).2 run e in
      let own : ℕ = block_of p.shape e in
      let here : end_of p.shape image run own ≡ own_block p e = same_block e k.permitted.0 in
      let may : MayNext p.shape (end_of p.shape image run) e = subst (λ (b : Block). May p.shape b e) (sym here) k.permitted in
      record {
        same_shape = k.same_shape;
        lawful = grow.0.1 (f.lawful, may);
        ended = λ block l.
            ap (λ (g : ℕ → Block). g block) grow.1
            ∙ elim (cases_eq block own) [
              | inl same ↦
                  subst (λ (b : ℕ). after_next p.shape (end_of p.shape image run) e b ≡ state_of_plain new b) (sym same)
                  (own_next p.shape (end_of p.shape image run) e ∙ (ap (λ (b : Block). after p.shape b e) here ∙ sym k.changed))
              | inr other ↦ other_next p.shape (end_of p.shape image run) e block other ∙ (f.ended block l ∙ sym (k.others block other))
            ];
      }

-- a run leads on with an event that is carried out
pub led_on : (shape : Shape) (image : List ℕ) (run : List Event) (p new : PlainState) (e : Event)
    → LeadsTo shape image run p → IsStep p new e → LeadsTo shape image (run ++ e ∷ []) new
led_on shape image run p new e f k =
    subst (λ (sh : Shape). LeadsTo sh image (run ++ e ∷ []) new) f.same_shape
    (carried image run p (subst (λ (sh : Shape). LeadsTo sh image run p) (sym f.same_shape) f) e new k)
