use Rattle.tlwire_rounds.proofs.answer.explain_in_rounds.Goals as goal

-- the run is walked along all that was seen
pub returns : goal.returns
returns c = c.explained_by.ensures
