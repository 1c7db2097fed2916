use Rattle.std.proofs.Common.{rules}
use Rattle.tl_protocol.proofs.copy.CachedCopy.store.Goals as goal

pub returns : goal.returns
returns c = search rules
