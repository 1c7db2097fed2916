use Rattle.std.proofs.Common.{◌≡◌, ℕ, [], length, slice_index_or}
use Rattle.tlcheck_rules.proofs.order.Waiting.new.Given as goal

abbrev pub invariant-loop : goal.invariant-loop
invariant-loop l = record {
  len : length l.queues.items ≡ l.counter;
  empty : (i : ℕ) → slice_index_or l.queues.items i [] ≡ [];
}
