use Rattle.std.proofs.Common.{rules}
use Rattle.tl_types.proofs.kind.code.Goals as goal

pub returns-in-ReleaseAck : goal.returns-in-ReleaseAck
returns-in-ReleaseAck c = search rules
