use Rattle.tlwire_exchanges.specs.Opened.{HasAnswers}
use Rattle.tlwire_exchanges.proofs.answers.Answers.of.Given as goal

-- the answers from the line on
abbrev pub invariant-loop-place : goal.invariant-loop-place
invariant-loop-place l = HasAnswers l.answers l.place l.seen
