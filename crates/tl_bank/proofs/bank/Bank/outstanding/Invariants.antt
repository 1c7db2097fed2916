use Rattle.std.proofs.Common.{◌≡◌, ◌*◌, ◌≤◌, take}
use Rattle.std.specs.Prelude.{sum_by}
use Rattle.tl_types.specs.declared.limits.TheConstants.{CLIENTS}
use Rattle.tl_bank_laws.proofs.AtHome.{recorders}
use Rattle.tl_bank.proofs.bank.Bank.outstanding.Given as goal

abbrev pub invariant-loop-block : goal.invariant-loop-block
invariant-loop-block l = record {
  value : l.count ≡ sum_by (recorders l.self) (take l.block-index l.block-items);
  few : l.count ≤ l.block-index * CLIENTS;
}
