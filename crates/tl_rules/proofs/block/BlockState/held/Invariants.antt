use Rattle.std.proofs.Common.{◌≡◌, ◌≤◌}
use Rattle.tl_protocol.specs.Ledger.{count_clients, has_copy}
use Rattle.tl_rules.specs.Plain.{plain_client}
use Rattle.tl_rules.proofs.block.BlockState.held.Given as goal

abbrev pub invariant-loop-i : goal.invariant-loop-i
invariant-loop-i l = record {
  counted : l.count ≡ count_clients has_copy l.i (plain_client l.self);
  at_most : l.count ≤ l.i;
}
