use Rattle.std.proofs.Common.{◌≡◌, ◌++◌, drop}
use Rattle.tlchart_model.specs.Arrow.{arrows_from, arrows_of}
use Rattle.tlchart_model.proofs.arrow.arrows.Given as goal

abbrev pub invariant-loop-row : goal.invariant-loop-row
invariant-loop-row l = l.arrows.items ++ arrows_from l.row (drop l.row l.turns) ≡ arrows_of l.turns
