use Rattle.std.proofs.Common.{◌≡◌, ◌+◌, drop}
use Rattle.tlchart_model.specs.Arrow.{taker}
use Rattle.tlchart_model.proofs.arrow.taker.Given as goal

abbrev pub invariant-loop-index : goal.invariant-loop-index
invariant-loop-index l = taker l.place (l.after + l.index) (drop l.index l.later) ≡ taker l.place l.after l.later
