use Rattle.std.proofs.Common.{◌≡◌, ◌≤◌}
use Rattle.tl_types.specs.Count.{count_below}
use Rattle.tl_embed.specs.Saw.{is_stored}
use Rattle.tl_embed.proofs.stores.Inferred.count.Given as goal

abbrev pub invariant-loop-place : goal.invariant-loop-place
invariant-loop-place l = (l.count ≡ count_below (is_stored l.self l.seen) l.place) × (l.count ≤ l.place)
