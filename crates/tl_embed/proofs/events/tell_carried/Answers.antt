use Rattle.std.proofs.Common.{rules}
use Rattle.tl_embed.proofs.events.tell_carried.Goals as goal

-- an event of home and the memory carries nothing beside its block
pub returns-in-SendGet : goal.returns-in-SendGet
returns-in-SendGet c = search rules
