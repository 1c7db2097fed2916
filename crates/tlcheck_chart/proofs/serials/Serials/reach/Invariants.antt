use Rattle.std.proofs.Common.{◌≡◌, ℕ, length, slice_index_or}
use Rattle.tlcheck_chart.specs.Serials.{empty_lane}
use Rattle.tlcheck_chart.proofs.serials.Serials.reach.Given as goal

abbrev pub invariant-loop : goal.invariant-loop
invariant-loop l = record {
  len : length l.self.lanes.items ≡ l.counter;
  same : (i : ℕ) → slice_index_or l.self.lanes.items i empty_lane ≡ slice_index_or l.fn.self.lanes.items i empty_lane;
}
