-- Where the events of a run lead (this project's own).
use Rattle.std.specs.Prelude.{◌≡◌, ◌<◌, ℕ, List}
use Rattle.tl_protocol.specs.declared.event.Event.{Event}
use Rattle.tl_protocol.specs.declared.shape.Shape.{Shape}
use Rattle.tl_protocol.specs.Protocol.{Block, block_of}
use Rattle.tl_protocol.specs.Runs.{IsRun, end_of}
use Rattle.tl_rules.specs.Plain.{state_of_plain}
use Rattle.tl_rules.specs.PlainState.{PlainState}

-- the block of an event, in a map of the state
abbrev pub own_block : PlainState → Event → Block
own_block plain e = state_of_plain plain (block_of plain.shape e)

-- These events are a run from reset over an image, and the map is where it leads. They take the messages of each block in their order, and
-- those of several blocks in any.
pub record LeadsTo (shape : Shape) (image : List ℕ) (run : List Event) (plain : PlainState) : Type 0 where
  pub same_shape : plain.shape ≡ shape
  pub lawful : IsRun shape image run
  pub ended : (block : ℕ) → block < shape.blocks → end_of shape image run block ≡ state_of_plain plain block
