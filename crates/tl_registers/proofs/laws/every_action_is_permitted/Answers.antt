use Rattle.tl_registers.proofs.Actions.{every-action-is-of-its-register}
use Rattle.tl_registers.proofs.Permitted.{every-action-is-permitted}
use Rattle.tl_registers.proofs.laws.every_action_is_permitted.Goals as goal

pub returns : goal.returns
returns c = record { permitted = every-action-is-permitted; own = every-action-is-of-its-register }
