use Rattle.std.proofs.Common.{rules}
use Rattle.tlcheck_rules.proofs.difference.other_data.Goals as goal

pub returns-in-Some-default : goal.returns-in-Some-default
returns-in-Some-default c = search rules
