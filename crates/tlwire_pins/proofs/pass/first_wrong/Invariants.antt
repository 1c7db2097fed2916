use Rattle.std.proofs.Common.{take}
use Rattle.tlwire_pins.specs.Judged.{held_in}
use Rattle.tlwire_pins.proofs.Walk.{Walked}
use Rattle.tlwire_pins.proofs.pass.first_wrong.Given as goal

-- what the lines so far lead to
abbrev pub invariant-loop-place : goal.invariant-loop-place
invariant-loop-place l = Walked l.tap l.shape l.client (take l.place l.seen) (held_in l.views)
