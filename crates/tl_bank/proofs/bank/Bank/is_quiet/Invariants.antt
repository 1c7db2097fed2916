use Rattle.std.proofs.Common.{ℕ, ◌<◌}
use Rattle.tl_bank_spec.specs.Views.{HasNoMessage, AwaitsNothing}
use Rattle.tl_bank.proofs.bank.Bank.is_quiet.Given as goal

abbrev pub invariant-loop-number : goal.invariant-loop-number
invariant-loop-number l = (c : ℕ) → c < l.number → HasNoMessage l.self c × AwaitsNothing l.self c
