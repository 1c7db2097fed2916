use Rattle.std.proofs.Common.{rules}
use Rattle.tl_copies.proofs.held.Held.store.Goals as goal

pub returns : goal.returns
returns c = search rules
