use Rattle.std.proofs.Common.{rules}
use Rattle.tl_registers.proofs.register.Register.next_action.Goals as goal

pub returns-in-Replace : goal.returns-in-Replace
returns-in-Replace g c = search rules
