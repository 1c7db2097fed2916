use Rattle.tl_copies.specs.Slots.{IsNotBefore}
use Rattle.tl_copies.proofs.table.Table.search.Given as goal

abbrev pub invariant-loop-place : goal.invariant-loop-place
invariant-loop-place l = IsNotBefore l.block l.keys l.place
