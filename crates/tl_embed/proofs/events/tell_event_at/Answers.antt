use Rattle.std.proofs.Common.{rules}
use Rattle.tl_embed.proofs.events.tell_event_at.Goals as goal

-- what is forgotten is not told as missing
pub returns-then-place-forgotten : goal.returns-then-place-forgotten
returns-then-place-forgotten c = search rules
