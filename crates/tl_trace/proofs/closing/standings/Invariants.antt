use Rattle.std.proofs.Common.{◌≡◌}
use Rattle.arrayvec.specs.ArrayVec.{array_vec_len}
use Rattle.tl_trace.specs.Closing.{standings}
use Rattle.tl_trace.proofs.closing.standings.Given as goal

abbrev pub invariant-loop-number : goal.invariant-loop-number
invariant-loop-number l = record {
  count : array_vec_len l.clients ≡ l.number;
  standings : l.clients.items ≡ standings l.bank l.block l.number;
}
