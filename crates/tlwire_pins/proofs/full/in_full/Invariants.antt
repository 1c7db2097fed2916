use Rattle.std.proofs.Common.{take}
use Rattle.tlwire_search.specs.Premises.{drops}
use Rattle.tlwire_pins.specs.Drops.{IsInFull}
use Rattle.tlwire_pins.proofs.full.in_full.Given as goal

-- the lines so far, in full
abbrev pub invariant-loop-line : goal.invariant-loop-line
invariant-loop-line l = IsInFull (drops l.premises) (take l.line-index l.seen) l.full.items
