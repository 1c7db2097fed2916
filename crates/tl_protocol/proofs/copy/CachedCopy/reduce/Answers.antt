use Rattle.std.proofs.Common.{rules}
use Rattle.tl_protocol.proofs.copy.CachedCopy.reduce.Goals as goal

pub returns-in-Writable-Branch : goal.returns-in-Writable-Branch
returns-in-Writable-Branch c = search rules
