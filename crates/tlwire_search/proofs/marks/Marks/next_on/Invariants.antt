use Rattle.std.proofs.Common.{◌≡◌, ◌<◌, ℕ, true, false, Some, get_or, slice_get}
use Rattle.tlwire_search.specs.Explained.{wire_of}
use Rattle.tlwire_search.specs.declared.seen.Seen.{Seen}
use Rattle.tlwire_search.proofs.marks.Marks.next_on.Given as goal

-- what was passed is marked, or on another wire
abbrev pub invariant-loop-place : goal.invariant-loop-place
invariant-loop-place l =
    (k : ℕ) (s : Seen) → k < l.place → get_or l.self.marks k true ≡ false → slice_get l.seen k ≡ Some s → wire_of s ≡ l.wire → ⊥
