use Rattle.std.proofs.Common.{rules}
use Rattle.tlcheck_rules.proofs.judge.Judge.breach_of_shown.Goals as goal

pub returns-in-Some : goal.returns-in-Some
returns-in-Some c = search rules

pub returns-in-None : goal.returns-in-None
returns-in-None c = search rules
