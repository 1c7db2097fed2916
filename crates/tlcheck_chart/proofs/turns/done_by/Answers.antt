use Rattle.std.proofs.Common.{◌∙◌, ap}
use Rattle.tl_protocol.specs.Protocol.{block_of}
use Rattle.tl_protocol.specs.declared.shape.Shape.{Shape}
use Rattle.tl_rules.specs.PlainState.{PlainState}
use Rattle.tlcheck_chart.proofs.Taking.{done}
use Rattle.tlcheck_chart.proofs.turns.done_by.Goals as goal

-- the shape is the judge's
pub returns-clause-done : goal.returns-clause-done
returns-clause-done c =
    done c.args.judge.now c.args.event.now c.new-block.result c.args.serials.now c.taken_by-takes.new.serials c.sent_by.new.serials _
    (c.new-block.ensures ∙ c.block.ensures
    ∙ ap (λ (s : Shape). block_of s c.args.event.now) (c.shape.ensures.value ∙ ap (λ (p : PlainState). p.shape) c.plain.ensures))
    c.taken_by-takes.ensures.place c.taken_by-takes.ensures.after c.in_ok-sends.ensures.message c.in_ok-sends.ensures.after
