use Rattle.std.proofs.Common.{◌≡◌, ◌++◌}
use Rattle.tlchart_page.specs.Cells.{banks_below}
use Rattle.tlchart_page.proofs.cells.push_banks.Given as goal

abbrev pub invariant-loop-number : goal.invariant-loop-number
invariant-loop-number l = l.cells.items ≡ l.fn.cells.items ++ banks_below l.geometry l.number
