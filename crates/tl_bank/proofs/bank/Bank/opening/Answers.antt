use Rattle.std.proofs.Common.{sym, ◌∙◌}
use Rattle.tl_bank.proofs.bank.Bank.opening.Goals as goal

pub way_taken-requires-clause-away : goal.way_taken-requires-clause-away
way_taken-requires-clause-away c = sym c.way_of.ensures.is ∙ c.in_default.is

pub victim_in-victim-requires-clause-away : goal.victim_in-victim-requires-clause-away
victim_in-victim-requires-clause-away c = sym c.way_of.ensures.is ∙ c.in_default.is
