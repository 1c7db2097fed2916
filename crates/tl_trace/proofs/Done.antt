-- What an action of a register sent is there.
use Rattle.std.proofs.Common.{◌≡◌, ℕ, ◌<◌, List, [], ◌∷◌, ◌++◌, refl, sym, ◌∙◌, ap, subst, eq-eqb}
use Rattle.std.specs.List.{All}
use Rattle.std.proofs.lemmas.List.Elements.{All-head, All-tail}
use Rattle.tl_map.specs.Numbers.{Numbers}
use Rattle.tl_protocol.specs.declared.event.Event.{Event}
use Rattle.tl_protocol.specs.declared.event.Event.TheVariants.{SendPut}
use Rattle.tl_protocol.specs.Protocol.{Block, after, block_of, home_bytes}
use Rattle.tl_protocol.specs.Runs.{IsRun}
use Rattle.tl_registers.specs.Fit.{event_of}
use Rattle.tl_registers.specs.declared.due.Due.{Due}
use Rattle.tl_registers.specs.declared.due.Due.TheVariants.{Probe as due_Probe, Grant as due_Grant, Get as due_Get, Put as due_Put, Drop as due_Drop}
use Rattle.tl_bank_spec.specs.Effects.{Advances, action_of}
use Rattle.tl_bank_spec.specs.View.{View, end_at, shape_of}
use Rattle.tl_bank_spec.specs.Steps.{Extends}
use Rattle.tl_bank_spec.specs.Own.{IsOwn}
use Rattle.tl_bank_spec.specs.declared.action.Action.{Action}
use Rattle.tl_trace.specs.Ready.{IsDone, IsWritten}
use Rattle.tl_bank_spec.proofs.Logged.{block-next, extends-serves, may-next}
use Rattle.tl_bank_spec.proofs.Sent.{sends-grant, sends-probe}
use Rattle.tl_trace.proofs.Posted.{there}

-- what holds of each holds of the last
All-last : {X : Type 0} (P : X → Type 0) (xs : List X) (x : X) → All P (xs ++ x ∷ []) → P x
All-last P [] x h = All-head P x [] h
All-last P (y ∷ ys) x h = All-last P ys x (All-tail P y (ys ++ x ∷ []) h)

-- every event is of a block of the bank
abbrev pub AllOwn : View → Type 0
AllOwn w = All (λ e. IsOwn w.geometry w.number (block_of (shape_of w.geometry) e)) w.log

-- a PutFullData has the bytes of home's copy
written : (v w : View) (block : ℕ) → Extends v w (SendPut block) → AllOwn w → IsWritten w block
written v w block x own =
    let s : Block = end_at v block in
    let is : end_at w block ≡ after (shape_of v.geometry) s (SendPut block) =
    block-next v w (SendPut block) block x ∙ rw (eq-eqb block block refl) refl in
    record {
      own =
          All-last (λ (e : Event). IsOwn w.geometry w.number (block_of (shape_of w.geometry) e)) v.log (SendPut block)
          (subst (λ (log : List Event). All (λ e. IsOwn w.geometry w.number (block_of (shape_of w.geometry) e)) log) x.log own);
      bytes = home_bytes s.home;
      put = ap (λ (t : Block). t.outward) is;
    }

-- what an action sends is there once its event is logged
done-by : (v w : View) (own : ℕ) (due : Due) → Extends v w (event_of own due) → IsRun (shape_of w.geometry) w.image w.log
    → AllOwn w → IsDone w own (action_of v due)
done-by v w own (due_Probe client block cap) x run all = there _ _ _ _ (sends-probe v w client block cap x run)
done-by v w own (due_Grant client) x run all = there _ _ _ _ (sends-grant v w client own x run)
done-by v w own due_Get x run all =
    let lt : own < v.geometry.memory_blocks = (may-next v w (event_of own due_Get) x run).0 in
    subst (λ (g : Numbers). own < g.memory_blocks) (sym x.geometry) lt
done-by v w own (due_Put block) x run all = written v w block x all
done-by v w own (due_Drop block) x run all = tt

-- what `advance` of a block says it sent is there
pub advance-done : (v w : View) (own : ℕ) (action : Action) → Advances v w own action
    → IsRun (shape_of w.geometry) w.image w.log → AllOwn w → IsDone w own action
advance-done v w own action a run all =
    subst (λ (t : Action). IsDone w own t) (sym a.answer)
    (done-by v w own a.due (extends-serves _ _ _ _ _ a.serves) run all)
