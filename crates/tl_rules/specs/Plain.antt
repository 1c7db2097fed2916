-- What the plain map says of the protocol.
use Rattle.std.specs.Prelude.{◌≡◌, ◌≢◌, ◌<◌, ℕ, List, [], None, slice_index_or}
use Rattle.tl_protocol.specs.declared.client.Client.{Client}
use Rattle.tl_protocol.specs.declared.shape.Shape.{Shape}
use Rattle.tl_protocol.specs.Client.{fresh_client}
use Rattle.tl_rules.specs.PlainBlock.{PlainBlock}
use Rattle.tl_rules.specs.PlainState.{PlainState}
use Rattle.tl_protocol.specs.Protocol.{Block, May, after, block_of}
use Rattle.tl_protocol.specs.Runs.{at_reset}
use Rattle.tl_protocol.specs.declared.event.Event.{Event}
use Rattle.tl_protocol.specs.declared.home.Outward.TheVariants.{Quiet}

-- the client with a number; past the last one, one that holds nothing
abbrev pub plain_client : PlainBlock → ℕ → Client
plain_client p c = slice_index_or p.clients c fresh_client

-- the block with its clients as a function of their numbers
abbrev pub block_state : PlainBlock → Block
block_state p =
    record { memory = p.memory; home = p.home; accepted = p.accepted; outward = p.outward; client = plain_client p }

-- a block with no bytes and no clients, which home does not hold and of which nothing is under way
abbrev pub empty_block : PlainBlock
empty_block = record { memory = []; home = None; accepted = None; outward = Quiet; clients = [] }

-- what the map says of a block of the memory
abbrev pub state_of_plain : PlainState → ℕ → Block
state_of_plain p block = block_state (slice_index_or p.blocks block empty_block)

-- nobody but the memory holds anything, and the memory has the image's bytes
pub record IsReset (shape : Shape) (image : List ℕ) (p : PlainState) : Type 0 where
  pub same_shape : p.shape ≡ shape
  pub blocks :
      (block : ℕ) → block < shape.blocks
      → state_of_plain p block ≡ at_reset shape image block

-- an event that was permitted has been carried out
pub record IsStep (old new : PlainState) (event : Event) : Type 0 where
  pub same_shape : new.shape ≡ old.shape
  pub permitted : May old.shape (state_of_plain old (block_of old.shape event)) event
  pub changed :
      state_of_plain new (block_of old.shape event) ≡ after old.shape (state_of_plain old (block_of old.shape event)) event
  pub others : (block : ℕ) → block ≢ block_of old.shape event → state_of_plain new block ≡ state_of_plain old block
