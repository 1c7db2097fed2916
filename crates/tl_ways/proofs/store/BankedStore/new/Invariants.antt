use Rattle.std.proofs.Common.{◌≡◌, ℕ, [], length, get_or}
use Rattle.tl_ways.proofs.store.BankedStore.new.Given as goal

abbrev pub invariant-loop : goal.invariant-loop
invariant-loop l = record {
  as_many : length l.blocks.items ≡ l.counter;
  empty : (index : ℕ) → get_or l.blocks.items index [] ≡ [];
}
