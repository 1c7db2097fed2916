use Rattle.std.proofs.Common.{map, string_bytes, sym, ◌∙◌}
use Rattle.std.proofs.lemmas.Result.{err_from_is_err_and}
use Rattle.tl_runner.proofs.JobLemmas.{asked_by, job_along, refused_by, same_fault}
use Rattle.tl_runner.proofs.line.job.Goals as goal

pub returns-clause-ok : goal.returns-clause-ok
returns-clause-ok c =
    let asked = asked_by _ (map (λ w. string_bytes w) c.args.words.now) c.in_ok-matches.matches c.in_ok-command.ensures c.in_ok-matches.ensures.kinds (λ simple. (c.in_ok-matches.ensures.matches simple).1) in
    job_along c.chosen.result _ _ asked c.chosen.ensures.ok

pub returns-clause-usage : goal.returns-clause-usage
returns-clause-usage c = λ usage.
    let asked = asked_by _ (map (λ w. string_bytes w) c.args.words.now) c.in_ok-matches.matches c.in_ok-command.ensures c.in_ok-matches.ensures.kinds (λ simple. (c.in_ok-matches.ensures.matches simple).1) in
    sym asked ∙ c.chosen.ensures.usage usage

pub returns-in_err-matches-clause-usage : goal.returns-in_err-matches-clause-usage
returns-in_err-matches-clause-usage c = λ usage.
    let p = err_from_is_err_and c.from_residual-in_err-matches.result c.from_residual-in_err-matches.ensures.1 in
    let fault = sym p.2 ∙ same_fault c.from_residual-in_err-matches.result _ _ p.1 usage in
    refused_by _ (map (λ w. string_bytes w) c.args.words.now) _ c.in_ok-command.ensures c.in_err-matches.ensures.kinds fault
