use Rattle.std.proofs.Common.{◌≡◌, ◌*◌, ◌^◌, ◌≤◌}
use Rattle.tl_bank_spec.specs.Views.{copies_below}
use Rattle.tl_bank.proofs.bank.Bank.held.Given as goal

abbrev pub invariant-loop-number : goal.invariant-loop-number
invariant-loop-number l = record {
  value : l.count ≡ copies_below l.self l.number;
  few : l.count ≤ l.number * 2 ^ 31;
}
