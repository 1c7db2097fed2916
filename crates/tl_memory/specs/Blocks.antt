-- A memory of blocks, and what a request does to it (TileLink 1.8, sections 6 and 8).
use Rattle.std.specs.Prelude.{◌≡◌, ℕ, ◌-◌, ◌*◌, ◌%◌, ◌^◌, ◌<◌, ◌==◌, Bool, true, IsTrue, Option, None, Some, List, [], ◌++◌, length, replicate, if◌then◌else◌}
use Rattle.std.specs.Fork.{slice_chunk}
use Rattle.tl_map.specs.Numbers.{Numbers}
use Rattle.tl_map.specs.Places.{block_of_address, bank_of, slot_of, slot_count}
use Rattle.tl_memory.specs.declared.request.Request.{Request}
use Rattle.tl_memory.specs.declared.request.Request.TheVariants.{Get, Put}
use Rattle.tl_memory.specs.declared.request.Reply.{Reply}
use Rattle.tl_memory.specs.declared.request.Reply.TheVariants.{AccessAckData, AccessAck}

-- the geometry, the bank whose blocks alone are kept, if there is one, for how many bytes there is room, and the bytes of
-- the blocks in rising order of their places
pub record Contents : Type 0 where
  pub geometry : Numbers
  pub bank : Option ℕ
  pub room : ℕ
  pub bytes : List ℕ

-- a block is kept: it is of the bank whose blocks alone are
abbrev pub is_kept : Numbers → Option ℕ → ℕ → Bool
is_kept g None block = true
is_kept g (Some bank) block = bank_of g block == bank

-- the place of a block among those that are kept: its number, or its slot in the one bank
abbrev pub place_in : Numbers → Option ℕ → ℕ → ℕ
place_in g None block = block
place_in g (Some bank) block = slot_of g block

-- how many places there are
abbrev pub place_count : Numbers → Option ℕ → ℕ
place_count g None = g.memory_blocks
place_count g (Some bank) = slot_count g

-- these bytes, and 0 behind them up to a length
abbrev pub filled_up : ℕ → List ℕ → List ℕ
filled_up len bytes = bytes ++ replicate (len - length bytes) 0

-- the bytes of a block; none of a block that is not kept
unfoldable pub block_in : Contents → ℕ → List ℕ
block_in m block =
    if is_kept m.geometry m.bank block then slice_chunk m.bytes m.geometry.block_bytes (place_in m.geometry m.bank block) else []

-- the address of a block of the memory
pub record IsAddress (g : Numbers) (address : ℕ) : Type 0 where
  pub inside : address < g.memory_blocks * g.block_bytes
  pub aligned : address % g.block_bytes ≡ 0

-- the size, as its logarithm, and the address of a block that is kept
pub record IsOfBlock (m : Contents) (logarithm from : ℕ) : Type 0 where
  pub size : 2 ^ logarithm ≡ m.geometry.block_bytes
  pub address : IsAddress m.geometry from
  pub kept : IsTrue (is_kept m.geometry m.bank (block_of_address m.geometry from))

-- a request for a whole block that is kept; a Put brings all its bytes
abbrev pub IsServable : Contents → Request → Type 0
IsServable m (Get size address) = IsOfBlock m size address
IsServable m (Put size address burst) = IsOfBlock m size address × (length burst ≡ m.geometry.block_bytes)

-- the answer to a request
abbrev pub reply_of_memory : Contents → Request → Reply
reply_of_memory m (Get size address) = AccessAckData size (block_in m (block_of_address m.geometry address))
reply_of_memory m (Put size address burst) = AccessAck size

-- the bytes of a block after a request: those of a Put to it, else as before
abbrev pub block_after : Contents → Request → ℕ → List ℕ
block_after m (Get size address) block = block_in m block
block_after m (Put size address burst) block = if block == block_of_address m.geometry address then burst else block_in m block
