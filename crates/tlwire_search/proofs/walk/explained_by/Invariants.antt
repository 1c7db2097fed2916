use Rattle.tlwire_search.specs.Left.{GoesAlong}
use Rattle.tlwire_search.proofs.walk.explained_by.Given as goal

-- the run so far goes along what was seen
abbrev pub invariant-loop-event : goal.invariant-loop-event
invariant-loop-event l = GoesAlong l.premises l.fn.shape l.image l.seen l.walk.run.items l.walk.plain l.walk.marks
