use Rattle.std.proofs.Common.{rules}
use Rattle.std.proofs.lemmas.List.Elements.{All-rest}
use Rattle.tl_tickets.specs.Bell.{IsSeatOf}
use Rattle.tl_runner_threads.proofs.deal.ringers.Goals as goal

pub loop-seat-preserved : goal.loop-seat-preserved
loop-seat-preserved c = (
  All-rest (IsSeatOf c.args.bell.now) _ _ _ c.in-Some.ensures.steps.0 c.loop-seat.invariant.0,
  search rules,
)
