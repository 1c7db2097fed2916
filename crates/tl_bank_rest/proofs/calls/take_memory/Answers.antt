use Rattle.std.proofs.lemmas.Result.{err_from_is_err_and}
use Rattle.tl_bank_rest.proofs.Resting.{memory-passes, only-memory}
use Rattle.tl_bank_rest.proofs.calls.take_memory.Goals as goal

pub returns-in_err-take_memory-clause-refused : goal.returns-in_err-take_memory-clause-refused
returns-in_err-take_memory-clause-refused c =
    let p = err_from_is_err_and c.from_residual.result c.from_residual.ensures.1 in
    rw (p.1, p.2) (only-memory _ _ _ c.requires c.in_err-take_memory.ensures.refused)

pub returns-clause-receives : goal.returns-clause-receives
returns-clause-receives c = (memory-passes _ _ _ c.in_ok-take_memory.ensures.takes c.log-log.ensures.run).0

pub returns-clause-counts : goal.returns-clause-counts
returns-clause-counts c = (memory-passes _ _ _ c.in_ok-take_memory.ensures.takes c.log-log.ensures.run).1
