-- One step among the states that the plain map keeps. No public clause cites this.
use Rattle.std.specs.Prelude.{◌≡◌, ◌+◌, ℕ, List, Option, Some, slice_index_or, slice_set}
use Rattle.tl_protocol.specs.Protocol.{after}
use Rattle.tl_protocol.specs.declared.event.Event.{Event}
use Rattle.tl_protocol.specs.declared.shape.Shape.{Shape}
use Rattle.tl_rules.specs.Plain.{block_state, empty_block}
use Rattle.tl_rules.specs.PlainBlock.{PlainBlock}
use Rattle.tl_rules.specs.PlainState.{blocks_in}

-- a block has a state of its own, which is what an event leaves of it, and the other states are as they were
abbrev pub IsLedTo : Shape → List (Option PlainBlock) → List (Option PlainBlock) → ℕ → Event → Type 0
IsLedTo shape old new block event =
    (own : PlainBlock) × (new ≡ slice_set old (block + 1) (Some own))
    × (block_state own ≡ after shape (block_state (slice_index_or (blocks_in old) block empty_block)) event)
