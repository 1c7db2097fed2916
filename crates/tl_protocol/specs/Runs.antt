-- Runs: lists of events, each permitted where the ones before it lead (this project's own).
use Rattle.std.specs.Prelude.{◌≡◌, ◌↔◌, ℕ, ◌*◌, ◌==◌, List, [], ◌∷◌, ◌++◌, if◌then◌else◌}
use Rattle.tl_types.specs.Bytes.{image_bytes}
use Rattle.tl_protocol.specs.declared.event.Event.{Event}
use Rattle.tl_protocol.specs.declared.shape.Shape.{Shape}
use Rattle.tl_protocol.specs.Protocol.{Block, reset, block_of, May, after}

-- what is held of each block at reset
abbrev pub at_reset : Shape → List ℕ → ℕ → Block
at_reset shape image block = reset (image_bytes image (block * shape.block_bytes) shape.block_bytes)

-- An event is permitted by its own block, and changes that one alone.
abbrev pub MayNext : Shape → (ℕ → Block) → Event → Type 0
MayNext shape s e = May shape (s (block_of shape e)) e

-- what an event leaves of each block
abbrev pub after_next : Shape → (ℕ → Block) → Event → ℕ → Block
after_next shape s e block = if block == block_of shape e then after shape (s block) e else s block

-- these events may come one after another from a state
abbrev pub IsRunFrom : Shape → (ℕ → Block) → List Event → Type 0
IsRunFrom shape s [] = Unit {0}
IsRunFrom shape s (e ∷ es) = MayNext shape s e × IsRunFrom shape (after_next shape s e) es

-- where these events lead from a state
abbrev pub end_from : Shape → (ℕ → Block) → List Event → ℕ → Block
end_from shape s [] = s
end_from shape s (e ∷ es) = end_from shape (after_next shape s e) es

-- a run from reset
abbrev pub IsRun : Shape → List ℕ → List Event → Type 0
IsRun shape image events = IsRunFrom shape (at_reset shape image) events

-- where they lead from reset
abbrev pub end_of : Shape → List ℕ → List Event → ℕ → Block
end_of shape image events = end_from shape (at_reset shape image) events

-- The empty list is a run. A list with one more event is a run just where the list is one and the event is permitted in its
-- end, and it ends in what that event leaves.
abbrev pub RunsGrowByOne : Type 0
RunsGrowByOne =
    (shape : Shape) (image : List ℕ)
    → IsRun shape image [] × (end_of shape image [] ≡ at_reset shape image)
    × ((events : List Event) (e : Event)
    → (IsRun shape image (events ++ e ∷ []) ↔ (IsRun shape image events × MayNext shape (end_of shape image events) e))
    × (end_of shape image (events ++ e ∷ []) ≡ after_next shape (end_of shape image events) e))
