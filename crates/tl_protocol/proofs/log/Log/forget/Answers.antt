use Rattle.std.proofs.Common.{rules, arith}
use Rattle.std.proofs.lemmas.Grind.{common_steps}
use Rattle.tl_protocol.proofs.log.Log.forget.Goals as goal

pub invariant_of-self : goal.invariant_of-self
invariant_of-self c = grind (arith, common_steps)

pub returns-clause-events : goal.returns-clause-events
returns-clause-events c = search rules

pub returns-clause-forgotten : goal.returns-clause-forgotten
returns-clause-forgotten c = grind (arith, common_steps)

pub returns-clause-room : goal.returns-clause-room
returns-clause-room c = search rules
