use Rattle.std.proofs.Common.{◌≤◌, ◌-◌, length}
use Rattle.tl_copies.specs.Slots.{IsNotBefore}
use Rattle.tl_copies.proofs.table.passed.Given as goal

abbrev pub invariant-loop-place : goal.invariant-loop-place
invariant-loop-place l = (l.place ≤ length l.keys) × IsNotBefore l.block l.keys l.place

abbrev pub decreases-loop-place : goal.decreases-loop-place
decreases-loop-place l = length l.keys - l.place
