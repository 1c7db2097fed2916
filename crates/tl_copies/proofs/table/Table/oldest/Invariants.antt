use Rattle.std.proofs.Common.{◌≡◌, drop}
use Rattle.tl_copies.specs.Entries.{oldest_in}
use Rattle.tl_copies.proofs.table.Table.oldest.Given as goal

abbrev pub invariant-loop-place : goal.invariant-loop-place
invariant-loop-place l = oldest_in l.self ≡ oldest_in (drop l.place l.self)
