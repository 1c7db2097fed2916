use Rattle.std.proofs.Common.{arith, subst}
use Rattle.tlwire_answer.specs.Answer.{IsSets}
use Rattle.tlwire_answer.specs.declared.sets.Sets.{Sets}
use Rattle.tlwire_answer.specs.declared.sets.Sets.TheVariants.{Stuck}
use Rattle.tlwire_answer.proofs.sets.asked_to.Goals as goal

pub returns-in-Stuck : goal.returns-in-Stuck
returns-in-Stuck c = λ m h.
    let said : IsSets m c.args.to (Stuck c.in-Stuck.stuck) = subst (λ (s : Sets). IsSets m c.args.to s) c.in-Stuck.is h in
    omega (arith, said.1)
