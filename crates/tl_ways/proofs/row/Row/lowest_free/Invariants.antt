use Rattle.std.proofs.Common.{◌≡◌}
use Rattle.std.specs.Prelude.{None, ◌&&◌, not, is_none}
use Rattle.tl_types.specs.Lowest.{lowest}
use Rattle.tl_ways.specs.Orders.{is_busy}
use Rattle.tl_ways.specs.Rows.{entry_in}
use Rattle.tl_ways.proofs.row.Row.lowest_free.Given as goal

abbrev pub invariant-loop-number : goal.invariant-loop-number
invariant-loop-number l = lowest (λ way. is_none (entry_in l.self way) && not (is_busy l.busy way)) l.number ≡ None
