use Rattle.std.proofs.Common.{◌≡◌, false}
use Rattle.tl_copies.specs.Slots.{IsNotBefore}
use Rattle.tl_copies.proofs.table.has.Given as goal

abbrev pub invariant-loop-key : goal.invariant-loop-key
invariant-loop-key l = l.has ≡ false → IsNotBefore l.block l.keys l.key-index
