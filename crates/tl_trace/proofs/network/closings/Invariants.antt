use Rattle.std.proofs.Common.{take}
use Rattle.tl_trace.specs.Closing.{Close}
use Rattle.tl_trace.specs.NetworkState.{AreCoherent}
use Rattle.tl_trace.proofs.network.closings.Given as goal

abbrev pub invariant-loop-shared_bank : goal.invariant-loop-shared_bank
invariant-loop-shared_bank l = record {
  closes : Close (take l.shared_bank-index l.shared_banks) l.closings.items;
  coherent : AreCoherent (take l.shared_bank-index l.shared_banks);
}
