use Rattle.std.proofs.Common.{◌≢◌, ℕ, ◌<◌}
use Rattle.tl_types.specs.declared.permission.Perm.TheVariants.{Tip}
use Rattle.tl_bank_spec.specs.View.{perm_at}
use Rattle.tl_bank.proofs.bank.Bank.writer.Given as goal

abbrev pub invariant-loop-number : goal.invariant-loop-number
invariant-loop-number l = (c : ℕ) → c < l.number → perm_at l.self c l.block ≢ Tip
