use Rattle.std.proofs.Common.{◌≡◌, ◌≤◌}
use Rattle.tl_protocol.specs.Ledger.{count_clients, is_recorded}
use Rattle.tl_bank_spec.specs.View.{end_at}
use Rattle.tl_bank.proofs.bank.Bank.sharers.Given as goal

abbrev pub invariant-loop-number : goal.invariant-loop-number
invariant-loop-number l = record {
  value : l.count ≡ count_clients is_recorded l.number (end_at l.self l.block).client;
  few : l.count ≤ l.number;
}
