use Rattle.std.proofs.Common.{◌≡◌, ℕ, length, get_or}
use Rattle.std.specs.Prelude.{None}
use Rattle.tl_ways.specs.Orders.{rising}
use Rattle.tl_ways.proofs.row.Row.new.Given as goal

abbrev pub invariant-loop-number : goal.invariant-loop-number
invariant-loop-number l = record {
  entries : length l.entries.items ≡ l.number;
  free : (way : ℕ) → get_or l.entries.items way None ≡ None;
  order : l.order.items ≡ rising l.number;
  as_many : length l.order.items ≡ l.number;
}
