use Rattle.std.proofs.Common.{◌≡◌, map, take}
use Rattle.std.specs.Borrow.{Bor}
use Rattle.tlwire_search.specs.declared.seen.Seen.{Seen}
use Rattle.tlwire_pins.proofs.order.is_beginning.Given as goal

-- the lines so far are the same
abbrev pub invariant-loop-place : goal.invariant-loop-place
invariant-loop-place l =
    take l.place (map (λ (x : Bor Seen). x.now) l.some) ≡ take l.place (map (λ (x : Bor Seen). x.now) l.all)
