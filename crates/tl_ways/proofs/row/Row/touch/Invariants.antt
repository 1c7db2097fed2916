use Rattle.std.proofs.Common.{◌≡◌, ◌≤◌, take, length}
use Rattle.tl_ways.specs.Orders.{without_way}
use Rattle.tl_ways.proofs.row.Row.touch.Given as goal

abbrev pub invariant-loop-other : goal.invariant-loop-other
invariant-loop-other l = record {
  so_far : l.order.items ≡ without_way l.way (take l.other-index l.other-items);
  few : length l.order.items ≤ l.other-index;
}
