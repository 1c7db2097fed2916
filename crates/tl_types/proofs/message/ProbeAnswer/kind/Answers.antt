use Rattle.std.proofs.Common.{rules}
use Rattle.tl_types.proofs.message.ProbeAnswer.kind.Goals as goal

pub returns-in-TtoN-Some : goal.returns-in-TtoN-Some
returns-in-TtoN-Some c = search rules
