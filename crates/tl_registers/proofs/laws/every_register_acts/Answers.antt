use Rattle.tl_registers.proofs.Acts.{every-register-acts}
use Rattle.tl_registers.proofs.laws.every_register_acts.Goals as goal

pub returns : goal.returns
returns c = every-register-acts
