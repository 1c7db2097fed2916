use Rattle.std.proofs.Common.{rules}
use Rattle.tl_registers.proofs.register.end_above.Goals as goal

pub returns-then-eq-clause-rest : goal.returns-then-eq-clause-rest
returns-then-eq-clause-rest c = search rules
