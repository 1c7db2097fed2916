use Rattle.std.proofs.Common.{rules}
use Rattle.tl_embed.proofs.events.tell_access.Goals as goal

-- all that an access carries is told
pub returns : goal.returns
returns c = search rules
