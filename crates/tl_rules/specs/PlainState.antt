-- The whole plain map.
use Rattle.std.specs.Prelude.{◌≡◌, ◌<◌, ◌≤◌, List, [], ◌∷◌, All, Option, Some, None, length, map, unwrap_or}
use Rattle.tl_protocol.specs.declared.shape.Shape.{Shape}
use Rattle.tl_rules.specs.PlainBlock.{PlainBlock}
use Rattle.tl_types.specs.declared.limits.TheConstants.{BLOCK_BYTES}

-- the shape of the clients and blocks, and the blocks in the order of their numbers
pub record PlainState : Type 0 where
  pub shape : Shape
  pub blocks : List PlainBlock

-- a block is of 1 to 64 bytes; each block of the memory is there, with each client
pub record IsShaped (shape : Shape) (blocks : List PlainBlock) : Type 0 where
  pub nonempty : 0 < shape.block_bytes
  pub at_most : shape.block_bytes ≤ BLOCK_BYTES
  pub all_blocks : length blocks ≡ shape.blocks
  pub all_clients : All (λ block. length block.clients ≡ shape.clients) blocks

-- each block; one that has no state of its own is as a fresh one
abbrev pub each_block : PlainBlock → List (Option PlainBlock) → List PlainBlock
each_block fresh blocks = map (λ (own : Option PlainBlock). unwrap_or own fresh) blocks

-- the blocks of some states, of which the first is a fresh block's
abbrev pub blocks_in : List (Option PlainBlock) → List PlainBlock
blocks_in [] = []
blocks_in (None ∷ own) = []
blocks_in (Some fresh ∷ own) = each_block fresh own
