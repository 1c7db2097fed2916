use Rattle.std.proofs.Common.{sym, ◌∙◌}
use Rattle.tl_runner_report.proofs.Numbers.{same_numbers, numbers_same}
use Rattle.tl_runner_report.proofs.banks.same_numbers.Goals as goal

pub returns : goal.returns
returns c =
    (λ t. same_numbers c.args.one c.args.other (sym c.eq.ensures ∙ t), λ e. c.eq.ensures ∙ numbers_same c.args.one c.args.other e)
