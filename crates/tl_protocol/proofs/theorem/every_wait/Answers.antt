use Rattle.tl_protocol.proofs.Awaiting.{every_wait_is_heard}
use Rattle.tl_protocol.proofs.theorem.every_wait.Goals as goal

pub returns : goal.returns
returns c = record { heard = every_wait_is_heard }
