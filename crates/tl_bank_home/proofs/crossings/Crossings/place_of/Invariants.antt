use Rattle.std.proofs.Common.{◌≡◌, ◌≢◌, ℕ, ◌<◌, drop, slice_index_or}
use Rattle.tl_bank_home.specs.declared.crossings.Crossing.{Crossing}
use Rattle.tl_bank_home.specs.Crossings.{outward_of}
use Rattle.tl_bank_home.proofs.crossings.Crossings.place_of.Given as goal

abbrev pub invariant-loop-place : goal.invariant-loop-place
invariant-loop-place l = record {
  rest : outward_of l.block l.crossing-items ≡ outward_of l.block (drop l.place l.crossing-items);
  before : (k : ℕ) (d : Crossing) → k < l.place → (slice_index_or l.crossing-items k d).block ≢ l.block;
}
