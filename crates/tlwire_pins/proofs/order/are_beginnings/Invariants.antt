use Rattle.std.proofs.Common.{◌<◌, ℕ, [], map, slice_index_or}
use Rattle.std.specs.Borrow.{Bor}
use Rattle.tlwire_search.specs.declared.seen.Seen.{Seen}
use Rattle.tlwire_pins.specs.Walk.{IsBeginning}
use Rattle.tlwire_pins.proofs.order.are_beginnings.Given as goal

-- of each block so far
abbrev pub invariant-loop-block : goal.invariant-loop-block
invariant-loop-block l =
    (block : ℕ) → block < l.block
    → IsBeginning (map (λ (x : Bor Seen). x.now) (slice_index_or l.some block []))
    (map (λ (x : Bor Seen). x.now) (slice_index_or l.all block []))
