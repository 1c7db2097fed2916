use Rattle.std.proofs.Common.{◌≤◌}
use Rattle.tl_embed.specs.Saw.{StoresUpTo}
use Rattle.tl_embed.proofs.stores.Inferred.make.Given as goal

abbrev pub invariant-loop-place : goal.invariant-loop-place
invariant-loop-place l = StoresUpTo l.self l.seen l.place l.initial.network l.network l.made × (l.made ≤ l.place)
