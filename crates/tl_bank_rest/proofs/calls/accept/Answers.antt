use Rattle.std.proofs.Common.{refl}
use Rattle.std.proofs.lemmas.Result.{err_from_is_err_and}
use Rattle.tl_bank_rest.proofs.Resting.{only-memory, serves-passes}
use Rattle.tl_bank_rest.proofs.calls.accept.Goals as goal

pub returns-in_err-accept-clause-refused : goal.returns-in_err-accept-clause-refused
returns-in_err-accept-clause-refused c =
    let p = err_from_is_err_and c.from_residual.result c.from_residual.ensures.1 in
    rw (p.1, p.2) (only-memory _ _ _ c.requires c.in_err-accept.ensures.refused)

pub returns-clause-receives : goal.returns-clause-receives
returns-clause-receives c = (serves-passes _ _ _ _ _ c.in_ok-accept.ensures.accepts.serves c.log-log.ensures.run refl refl).0

pub returns-clause-counts : goal.returns-clause-counts
returns-clause-counts c = (serves-passes _ _ _ _ _ c.in_ok-accept.ensures.accepts.serves c.log-log.ensures.run refl refl).1
