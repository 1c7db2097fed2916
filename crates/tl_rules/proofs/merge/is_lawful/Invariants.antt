use Rattle.std.proofs.Common.{drop}
use Rattle.tl_rules.specs.Certified.{accesses_of}
use Rattle.tl_rules.proofs.Rising.{Same}
use Rattle.tl_rules.proofs.merge.is_lawful.Given as goal

abbrev pub invariant-loop-event : goal.invariant-loop-event
invariant-loop-event l = Same l.last (accesses_of l.log) (accesses_of (drop l.event-index l.log))
