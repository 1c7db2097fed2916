use Rattle.std.proofs.Common.{◌≡◌, ◌++◌}
use Rattle.tlchart_page.specs.Cells.{channels_below}
use Rattle.tlchart_page.proofs.cells.push_channels.Given as goal

abbrev pub invariant-loop-number : goal.invariant-loop-number
invariant-loop-number l = l.cells.items ≡ l.fn.cells.items ++ channels_below l.bank l.number
