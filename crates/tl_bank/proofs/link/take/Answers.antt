use Rattle.std.proofs.Common.{rules}
use Rattle.tl_bank.proofs.link.take.Goals as goal

pub returns-clause-after : goal.returns-clause-after
returns-clause-after c = search rules
