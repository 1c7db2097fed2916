use Rattle.std.proofs.Common.{◌≡◌, take}
use Rattle.std.specs.Prelude.{None, not, find}
use Rattle.tl_ways.specs.Orders.{is_busy}
use Rattle.tl_ways.proofs.row.Row.first_in_order.Given as goal

abbrev pub invariant-loop-way : goal.invariant-loop-way
invariant-loop-way l = find (λ way. not (is_busy l.busy way)) (take l.way-index l.way-items) ≡ None
