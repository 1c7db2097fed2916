use Rattle.std.proofs.Common.{ℕ, ◌<◌, get_or}
use Rattle.tl_bank_spec.specs.View.{View}
use Rattle.tl_runner_report.specs.Banks.{IsBankOf}
use Rattle.tl_runner_report.proofs.banks.are_banks_of.Given as goal

abbrev pub invariant-loop-number : goal.invariant-loop-number
invariant-loop-number l = (k : ℕ) → k < l.number → (d : View) → IsBankOf l.script k (get_or l.banks k d)
