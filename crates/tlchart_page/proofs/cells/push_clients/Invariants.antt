use Rattle.std.proofs.Common.{◌≡◌, ◌++◌}
use Rattle.tlchart_page.specs.Cells.{clients_below}
use Rattle.tlchart_page.proofs.cells.push_clients.Given as goal

abbrev pub invariant-loop-number : goal.invariant-loop-number
invariant-loop-number l = l.cells.items ≡ l.fn.cells.items ++ clients_below l.bank l.block l.number
