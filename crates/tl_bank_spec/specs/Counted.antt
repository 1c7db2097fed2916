-- Whose number of copies an event changes (this project's own).
use Rattle.std.specs.Prelude.{◌≡◌, ℕ, Option, Some, None}
use Rattle.tl_protocol.specs.declared.event.Event.{Event}
use Rattle.tl_protocol.specs.declared.event.Event.TheVariants.{SendRelease, AnswerProbe, TakeGrant}
use Rattle.tl_protocol_lanes.specs.Lists.{IsOther}
use Rattle.tl_bank_spec.specs.Forbidden.{MayAt}
use Rattle.tl_bank_spec.specs.View.{View}
use Rattle.tl_bank_spec.specs.Steps.{Extends}
use Rattle.tl_bank_spec.specs.Tables.{copies_at}

-- the client whose share the call takes that makes the event, if there is one
abbrev pub client_counted : Event → Option ℕ
client_counted (SendRelease c block prune) = Some c
client_counted (AnswerProbe c block) = Some c
client_counted (TakeGrant c block) = Some c
client_counted e = None

-- A permitted event leaves the number of copies of every client but that one.
abbrev pub EveryEventLeavesOtherCounts : Type 0
EveryEventLeavesOtherCounts =
    (old new : View) (e : Event) (x : ℕ) → MayAt old e → Extends old new e → IsOther (client_counted e) x
    → copies_at new x ≡ copies_at old x
