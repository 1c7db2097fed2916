-- What home holds of the blocks of one bank, as those above see it: its copies, what it records of each client, what passes
-- between it and the memory, and the memory.
use Rattle.std.specs.Prelude.{◌≡◌, ◌≢◌, ℕ, ◌<◌, Bool, false, List, length, Option, None, Some}
use Rattle.tl_types.specs.declared.permission.Perm.{Perm}
use Rattle.tl_map.specs.Numbers.{Numbers}
use Rattle.tl_protocol.specs.declared.home.Line.{Line}
use Rattle.tl_protocol.specs.declared.home.Outward.{Outward}
use Rattle.tl_protocol.specs.declared.home.Outward.TheVariants.{Quiet, Get, Data, Put, PutAck}
use Rattle.tl_memory.specs.Blocks.{Contents, block_in}
use Rattle.tl_memory.specs.declared.request.Request.{Request}
use Rattle.tl_memory.specs.declared.request.Request.TheVariants as request
use Rattle.tl_memory.specs.declared.request.Reply.{Reply}
use Rattle.tl_memory.specs.declared.request.Reply.TheVariants.{AccessAckData, AccessAck}
use Rattle.tl_bank_home.specs.declared.crossings.Crossing.{Crossing}
use Rattle.tl_bank_home.specs.Directories.{Directory, way_of, line_of, recorded_of, free_in, order_of}
use Rattle.tl_bank_home.specs.Crossings.{outward_of}

-- the state of home and of the memory
pub record HomeState : Type 0 where
  pub directory : Directory
  pub crossings : List Crossing
  pub memory : Contents

-- ## What is seen of it

-- the geometry
unfoldable pub geometry_in : HomeState → Numbers
geometry_in h = h.directory.geometry

-- the bank
unfoldable pub bank_in : HomeState → ℕ
bank_in h = h.directory.bank

-- home's copy of a block
unfoldable pub line_in : HomeState → ℕ → Option Line
line_in h block = line_of h.directory block

-- the permission that home records for a client of a block
unfoldable pub recorded_in : HomeState → ℕ → ℕ → Perm
recorded_in h client block = recorded_of h.directory client block

-- what passes of a block between home and the memory
unfoldable pub outward_in : HomeState → ℕ → Outward
outward_in h block = outward_of block h.crossings

-- of how many blocks something passes
unfoldable pub crossing_count : HomeState → ℕ
crossing_count h = length h.crossings

-- the bytes of a block of the bank in memory
unfoldable pub memory_in : HomeState → ℕ → List ℕ
memory_in h block = block_in h.memory block

-- the way in which a block lies
unfoldable pub way_in : HomeState → ℕ → Option ℕ
way_in h block = way_of h.directory block

-- no block lies in a way of a set
unfoldable pub free_at : HomeState → ℕ → ℕ → Bool
free_at h set way = free_in h.directory set way

-- the order of a set's ways: the one whose block was granted longest ago is first
unfoldable pub order_at : HomeState → ℕ → List ℕ
order_at h set = order_of h.directory set

-- each block of which something passes has a holder of its own, of n: so there are no more than n such blocks
pub record EachHasHolder (h : HomeState) (n : ℕ) (holder : ℕ → ℕ) : Type 0 where
  pub inside : (block : ℕ) → outward_in h block ≢ Quiet → holder block < n
  pub own : (a b : ℕ) → outward_in h a ≢ Quiet → outward_in h b ≢ Quiet → holder a ≡ holder b → a ≡ b

-- home and the memory have one geometry, and the memory keeps the blocks of home's bank
pub record IsHome (h : HomeState) : Type 0 where
  pub geometry : h.memory.geometry ≡ h.directory.geometry
  pub bank : h.memory.bank ≡ Some h.directory.bank

-- ## What stays

-- the geometry and the bank
pub record SameBank (old new : HomeState) : Type 0 where
  pub geometry : geometry_in new ≡ geometry_in old
  pub bank : bank_in new ≡ bank_in old

-- each block's way, and what choosing a way rests on
pub record SameWays (old new : HomeState) : Type 0 where
  pub ways : (block : ℕ) → way_in new block ≡ way_in old block
  pub free : (set way : ℕ) → free_at new set way ≡ free_at old set way
  pub orders : (set : ℕ) → order_at new set ≡ order_at old set

-- what passes between home and the memory
pub record SameOutward (old new : HomeState) : Type 0 where
  pub outward : (block : ℕ) → outward_in new block ≡ outward_in old block
  pub count : crossing_count new ≡ crossing_count old

-- home's copies, and what it records
pub record SameHome (old new : HomeState) : Type 0 where
  pub lines : (block : ℕ) → line_in new block ≡ line_in old block
  pub recorded : (client block : ℕ) → recorded_in new client block ≡ recorded_in old client block
  pub ways : SameWays old new

-- the memory
abbrev pub SameMemory : HomeState → HomeState → Type 0
SameMemory old new = (block : ℕ) → memory_in new block ≡ memory_in old block

-- ## The memory's requests and replies

-- home's request of a block, with the base-2 logarithm of the block's bytes and its address; what is no Put is read as a Get
abbrev pub request_of : ℕ → ℕ → Outward → Request
request_of size address Quiet = request.Get size address
request_of size address Get = request.Get size address
request_of size address (Data bytes) = request.Get size address
request_of size address (Put bytes) = request.Put size address bytes
request_of size address PutAck = request.Get size address

-- the memory's reply to it, with the same size: to a Get the block's bytes, to a Put that they are written
abbrev pub reply_to : ℕ → List ℕ → Outward → Reply
reply_to size memory Quiet = AccessAckData size memory
reply_to size memory Get = AccessAckData size memory
reply_to size memory (Data bytes) = AccessAckData size memory
reply_to size memory (Put bytes) = AccessAck size
reply_to size memory PutAck = AccessAckData size memory

-- what a reply leaves on the way to home
abbrev pub arriving : Reply → Outward
arriving (AccessAckData size bytes) = Data bytes
arriving (AccessAck size) = PutAck

-- ## What a step leaves

-- what the memory's answer leaves on the way (TileLink 1.8, section 6.2): a Get is answered with the block's bytes, a Put is
-- acknowledged
abbrev pub served_outward : List ℕ → Outward → Outward
served_outward memory Quiet = Quiet
served_outward memory Get = Data memory
served_outward memory (Data bytes) = Data bytes
served_outward memory (Put bytes) = PutAck
served_outward memory PutAck = PutAck

-- the block's bytes in memory then: those of a Put
abbrev pub served_memory : List ℕ → Outward → List ℕ
served_memory memory Quiet = memory
served_memory memory Get = memory
served_memory memory (Data bytes) = memory
served_memory memory (Put bytes) = bytes
served_memory memory PutAck = memory

-- the copy that home takes from what waits for it
abbrev pub fetched : Outward → Option Line
fetched Quiet = None
fetched Get = None
fetched (Data bytes) = Some (record { bytes = bytes; dirty = false })
fetched (Put bytes) = None
fetched PutAck = None
