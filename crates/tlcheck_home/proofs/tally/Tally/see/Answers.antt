use Rattle.std.proofs.Common.{ℕ, ◌<◌, List, [], ◌∷◌, ◌++◌}
use Rattle.tl_protocol.specs.declared.event.Event.{Event}
use Rattle.tl_protocol.specs.declared.shape.Shape.{Shape}
use Rattle.tlcheck_rules.specs.declared.order.ChannelOrder.{ChannelOrder}
use Rattle.tlcheck_rules.specs.Judged.{Follows, IsPermitted}
use Rattle.tlcheck_home.specs.Tally.{IsNoted, IsSeen}
use Rattle.tlcheck_home.proofs.Noting.{never_none, on_any, on_ok, seen_as, tables_stay}
use Rattle.tlcheck_home.proofs.tally.Tally.see.Goals as goal

pub returns-in-None-clause-ok : goal.returns-in-None-clause-ok
returns-in-None-clause-ok c order shape image log follows some =
    absurd (never_none order shape image log c.args.entry.now c.args.judge.now c.plain.result.now c.plain.ensures some follows
    (c.in_ok-step.ensures.ok order shape image log follows).0 c.in-None.ensures)

pub returns-in-Some-clause-ok : goal.returns-in-Some-clause-ok
returns-in-Some-clause-ok c =
    on_ok c.noted.result (IsNoted c.in-Some.situation c.args.mark c.args.self.now c.noted.new.self)
    ((order : ChannelOrder) (shape : Shape) (image : List ℕ) (log : List Event) → Follows order shape image log c.args.judge.now → 0 < shape.clients
    → IsSeen order shape image log c.args.entry.now c.args.mark c.step.new.self c.args.self.now c.noted.new.self)
    (λ noted order shape image log follows some.
    let step = c.in_ok-step.ensures.ok order shape image log follows in
    seen_as order shape image log c.args.entry.now c.args.mark c.args.judge.now c.step.new.self c.plain.result.now c.args.self.now
    c.noted.new.self c.in-Some.situation c.plain.ensures follows step.0 step.1 c.in-Some.ensures noted) c.noted.ensures.ok

pub returns-in-Some-clause-permitted : goal.returns-in-Some-clause-permitted
returns-in-Some-clause-permitted c =
    on_any c.noted.result
    ((order : ChannelOrder) (shape : Shape) (image : List ℕ) (log : List Event) → Follows order shape image log c.args.judge.now
    → IsPermitted order shape image log c.args.entry.now × Follows order shape image (log ++ c.args.entry.now.event ∷ []) c.step.new.self)
    c.in_ok-step.ensures.ok

pub returns-in-Some-clause-tables : goal.returns-in-Some-clause-tables
returns-in-Some-clause-tables c =
    tables_stay c.noted.result c.in-Some.situation c.args.mark c.args.self.now c.noted.new.self c.noted.ensures.ok c.noted.ensures.same
