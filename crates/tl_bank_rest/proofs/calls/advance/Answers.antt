use Rattle.std.proofs.lemmas.Result.{err_from_is_err_and}
use Rattle.tl_bank_rest.proofs.Resting.{advance-passes, only-memory}
use Rattle.tl_bank_rest.proofs.calls.advance.Goals as goal

pub returns-in_err-advance-clause-refused : goal.returns-in_err-advance-clause-refused
returns-in_err-advance-clause-refused c =
    let p = err_from_is_err_and c.from_residual.result c.from_residual.ensures.1 in
    rw (p.1, p.2) (only-memory _ _ _ c.requires c.in_err-advance.ensures.refused)

pub returns-clause-receives : goal.returns-clause-receives
returns-clause-receives c = (advance-passes _ _ _ _ c.in_ok-advance.ensures.advances c.log-log.ensures.run).0

pub returns-clause-counts : goal.returns-clause-counts
returns-clause-counts c = (advance-passes _ _ _ _ c.in_ok-advance.ensures.advances c.log-log.ensures.run).1
