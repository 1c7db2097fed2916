use Rattle.tl_registers.proofs.Pending.{pending-is-the-protocols}
use Rattle.tl_registers.proofs.laws.pending_is_the_protocols.Goals as goal

pub returns : goal.returns
returns c = pending-is-the-protocols
