use Rattle.tlwire_answer.proofs.Found.{found_then}
use Rattle.tlwire_answer.proofs.verdict.found_first.Goals as goal

pub returns-clause-verdict : goal.returns-clause-verdict
returns-clause-verdict c = found_then c.explained_at_once.result c.args.messages.now c.seen.result.now c.seen.ensures c.explained_at_once.ensures
