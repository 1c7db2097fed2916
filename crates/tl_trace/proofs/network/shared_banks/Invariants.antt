use Rattle.std.proofs.Common.{◌≡◌, length}
use Rattle.tl_trace.specs.NetworkState.{AreFresh}
use Rattle.tl_trace.proofs.network.shared_banks.Given as goal

abbrev pub invariant-loop-number : goal.invariant-loop-number
invariant-loop-number l = record {
  count : length l.shared_banks.items ≡ l.number;
  fresh : AreFresh l.geometry l.image 0 l.shared_banks.items;
}
