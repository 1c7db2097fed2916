use Rattle.tl_embed.proofs.Histories.{history}
use Rattle.tl_embed.proofs.history.every_history.Goals as goal

-- an open cache, each bank of which holds a run
pub returns-in-Some : goal.returns-in-Some
returns-in-Some c = history c.args.cache.now c.args.number c.in-Some.network c.in-Some.is c.runs.ensures
