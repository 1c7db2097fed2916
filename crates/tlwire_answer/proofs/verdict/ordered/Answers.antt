use Rattle.std.proofs.Common.{refl}
use Rattle.tlwire_answer.specs.Answer.{with_lines}
use Rattle.tlwire_answer.proofs.Told.{explained_then}
use Rattle.tlwire_answer.proofs.verdict.ordered.Goals as goal

pub returns-in-None : goal.returns-in-None
returns-in-None c =
    explained_then (with_lines c.args.messages.now c.args.seen.now) c.args.run.items c.deref.result.now c.deref.ensures.value c.requires
    (c.in_ok-order.ensures (rw c.in-None.is refl))
