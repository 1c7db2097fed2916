use Rattle.tl_embed.proofs.NotDone.{not-done}
use Rattle.tl_embed.proofs.stores.Inferred.store.Goals as goal

-- a store that was refused, or found no memory
pub returns-clause-refused : goal.returns-clause-refused
returns-clause-refused c = not-done _ _ _ _ _ _ _ c.played.ensures
