use Rattle.std.proofs.Common.{◌≡◌, [], ℕ, length, slice_index_or}
use Rattle.std.specs.Prelude.{All}
use Rattle.tl_copies.proofs.copies.Copies.new.Given as goal

abbrev pub invariant-loop : goal.invariant-loop
invariant-loop l = record {
  len : length l.tables.items ≡ l.counter;
  empty : (i : ℕ) → slice_index_or l.tables.items i [] ≡ [];
  each : All (λ t. t ≡ []) l.tables.items;
}
