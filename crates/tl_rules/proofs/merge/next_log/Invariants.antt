use Rattle.tl_rules.specs.Certified.{events_of}
use Rattle.tl_rules.proofs.Cursors.{IsBest}
use Rattle.tl_rules.proofs.merge.next_log.Given as goal

abbrev pub invariant-loop-place : goal.invariant-loop-place
invariant-loop-place l = IsBest (events_of l.logs) l.cursors l.place l.next
