use Rattle.tl_protocol.proofs.Example.{each_kind_is_a_run}
use Rattle.tl_protocol.proofs.theorem.some_run.Goals as goal

pub returns : goal.returns
returns c = each_kind_is_a_run
