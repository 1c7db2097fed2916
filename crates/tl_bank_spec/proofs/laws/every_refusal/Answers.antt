use Rattle.tl_bank_spec.proofs.Forbidden.{every_refusal_is_the_protocols}
use Rattle.tl_bank_spec.proofs.laws.every_refusal.Goals as goal

pub returns : goal.returns
returns c = every_refusal_is_the_protocols
