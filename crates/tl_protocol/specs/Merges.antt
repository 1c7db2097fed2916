-- Runs of one block, and runs of the banks put together (this project's own theorems).
use Rattle.std.specs.Prelude.{◌≡◌, ◌↔◌, ℕ, ◌==◌, List, [], ◌∷◌, if◌then◌else◌}
use Rattle.tl_protocol.specs.declared.event.Event.{Event}
use Rattle.tl_protocol.specs.declared.shape.Shape.{Shape}
use Rattle.tl_protocol.specs.Protocol.{Block, block_of, May, after}
use Rattle.tl_protocol.specs.Runs.{at_reset, IsRun, end_of}

-- the events of one block, in order
abbrev pub on_block : Shape → ℕ → List Event → List Event
on_block shape block [] = []
on_block shape block (e ∷ es) = if block == block_of shape e then e ∷ on_block shape block es else on_block shape block es

-- these events may come one after another from a state of one block
abbrev pub IsBlockRunFrom : Shape → Block → List Event → Type 0
IsBlockRunFrom shape s [] = Unit {0}
IsBlockRunFrom shape s (e ∷ es) = May shape s e × IsBlockRunFrom shape (after shape s e) es

-- where they lead
abbrev pub block_end_from : Shape → Block → List Event → Block
block_end_from shape s [] = s
block_end_from shape s (e ∷ es) = block_end_from shape (after shape s e) es

-- A list is a run just where the events of each block are one of that block alone, and its end is made of theirs.
abbrev pub RunsAreOfBlocks : Type 0
RunsAreOfBlocks =
    (shape : Shape) (image : List ℕ) (events : List Event)
    → (IsRun shape image events
    ↔ ((block : ℕ) → IsBlockRunFrom shape (at_reset shape image block) (on_block shape block events)))
    × ((block : ℕ)
    → end_of shape image events block ≡ block_end_from shape (at_reset shape image block) (on_block shape block events))

-- the events on the blocks of one bank, in order
abbrev pub on_bank : Shape → (ℕ → ℕ) → ℕ → List Event → List Event
on_bank shape bank_of bank [] = []
on_bank shape bank_of bank (e ∷ es) =
    if bank == bank_of (block_of shape e) then e ∷ on_bank shape bank_of bank es else on_bank shape bank_of bank es

-- the list is a merge of the banks' logs
abbrev pub IsMergeOf : Shape → (ℕ → ℕ) → (ℕ → List Event) → List Event → Type 0
IsMergeOf shape bank_of logs events = (bank : ℕ) → on_bank shape bank_of bank events ≡ logs bank

-- Every merge of runs on the banks' blocks is a run, and each block ends as in its bank's.
abbrev pub EveryMergeIsARun : Type 0
EveryMergeIsARun =
    (shape : Shape) (image : List ℕ) (bank_of : ℕ → ℕ) (logs : ℕ → List Event) (events : List Event)
    → IsMergeOf shape bank_of logs events → ((bank : ℕ) → IsRun shape image (logs bank))
    → IsRun shape image events
    × ((block : ℕ) → end_of shape image events block ≡ end_of shape image (logs (bank_of block)) block)
