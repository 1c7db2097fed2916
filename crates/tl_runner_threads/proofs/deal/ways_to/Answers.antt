use Rattle.std.proofs.Common.{rules}
use Rattle.std.proofs.lemmas.List.Elements.{All-rest, All-pop}
use Rattle.tl_tickets.specs.Bell.{IsSeatOf}
use Rattle.tl_tickets.specs.Inbox.{IsSenderOf}
use Rattle.tl_runner_threads.proofs.deal.ways_to.Goals as goal

pub loop-pass-preserved : goal.loop-pass-preserved
loop-pass-preserved c = (
  All-rest (IsSenderOf c.args.inbox.now) _ _ _ c.in-Some.ensures.steps.0 c.loop-pass.invariant.0,
  (All-pop (IsSeatOf c.args.bell.now) _ _ _ c.pop.ensures.items c.loop-pass.invariant.1).0,
  search rules,
  search rules,
)
