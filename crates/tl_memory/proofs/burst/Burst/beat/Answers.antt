use Rattle.std.proofs.Common.{rules}
use Rattle.tl_memory.proofs.burst.Burst.beat.Goals as goal

pub returns : goal.returns
returns c = search rules
