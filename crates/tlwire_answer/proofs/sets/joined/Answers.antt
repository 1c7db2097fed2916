use Rattle.tlwire_answer.proofs.sets.joined.Goals as goal

pub returns-in-Open : goal.returns-in-Open
returns-in-Open c = λ m to one other. c.with_reason.ensures m to one
