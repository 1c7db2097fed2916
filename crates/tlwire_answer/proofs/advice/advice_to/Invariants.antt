use Rattle.std.proofs.Common.{◌≡◌}
use Rattle.tlwire_answer.proofs.advice.advice_to.Given as goal

-- the record is as it was
abbrev pub invariant-loop-advice : goal.invariant-loop-advice
invariant-loop-advice l = l.messages ≡ l.fn.messages
