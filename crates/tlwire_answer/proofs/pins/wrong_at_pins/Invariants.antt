use Rattle.tlwire_answer.specs.Answer.{IsFirstOf}
use Rattle.tlwire_answer.proofs.pins.wrong_at_pins.Given as goal

abbrev pub invariant-loop-number : goal.invariant-loop-number
invariant-loop-number l = IsFirstOf l.messages l.number l.first
