use Rattle.tlwire_answer.specs.Answer.{IsSets}
use Rattle.tlwire_answer.proofs.sets.sets_at_clients.Given as goal

abbrev pub invariant-loop-client : goal.invariant-loop-client
invariant-loop-client g l = IsSets l.messages l.to l.all
