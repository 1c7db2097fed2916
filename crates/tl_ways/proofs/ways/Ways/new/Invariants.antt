use Rattle.std.proofs.Common.{◌≡◌, ℕ, ◌<◌, length, get_or}
use Rattle.tl_ways.specs.Orders.{rising}
use Rattle.tl_ways.specs.Rows.{IsEmpty}
use Rattle.tl_ways.specs.Tables.{no_row}
use Rattle.tl_ways.proofs.ways.Ways.new.Given as goal

abbrev pub invariant-loop : goal.invariant-loop
invariant-loop l = record {
  as_many : length l.rows.items ≡ l.counter;
  empty : (set : ℕ) → set < l.counter → IsEmpty l.ways (get_or l.rows.items set no_row);
  orders : (set : ℕ) → set < l.counter → (get_or l.rows.items set no_row).order ≡ rising l.ways;
}
