use Rattle.tl_rules.specs.Certified.{events_of}
use Rattle.tl_rules.specs.Left.{left}
use Rattle.tl_rules.proofs.Cursors.{count_left}
use Rattle.tl_rules.proofs.Loop.{State}
use Rattle.tl_rules.proofs.merge.certify_events.Given as goal

abbrev pub invariant-loop-place : goal.invariant-loop-place
invariant-loop-place l = State (events_of l.logs) l.cursors l.last

abbrev pub decreases-loop-place : goal.decreases-loop-place
decreases-loop-place l = count_left (left (events_of l.logs) l.cursors)
