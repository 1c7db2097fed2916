use Rattle.std.proofs.Common.{◌≢◌, ℕ, ◌<◌}
use Rattle.std.specs.Prelude.{Some}
use Rattle.tl_ways.specs.Rows.{tag_in}
use Rattle.tl_ways.proofs.row.Row.find.Given as goal

abbrev pub invariant-loop-number : goal.invariant-loop-number
invariant-loop-number l = (way : ℕ) → way < l.number → tag_in l.self way ≢ Some l.tag
