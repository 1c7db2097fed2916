use Rattle.tl_rules.proofs.Over.{AreOver}
use Rattle.tl_rules.proofs.plain.states_over.Given as goal

abbrev pub invariant-loop-i : goal.invariant-loop-i
invariant-loop-i l = AreOver l.shape l.image l.i l.states.items
