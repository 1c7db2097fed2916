use Rattle.std.proofs.Common.{◌≡◌, List, ◌++◌}
use Rattle.crossbeam_queue.specs.Passes.{view, IsPassOf}
use Rattle.tl_tickets.specs.Inbox.{PassView}
use Rattle.tl_tickets.specs.Delivery.{gathered, IsTotal}
use Rattle.tl_tickets.proofs.inbox.gather.Given as goal

abbrev pub invariant-loop-next : goal.invariant-loop-next
invariant-loop-next l = (done : List PassView) × (l.fn.passes.items ≡ l.passes.items ++ done) × IsPassOf l.queue l.all × (view l.all ≡ gathered done) × IsTotal l.total done

abbrev pub decreases-loop-next : goal.decreases-loop-next
decreases-loop-next l = goal.left-loop-next l
