-- What a bank's layers hold is what its log leaves (this project's own). No public clause cites this module.
use Rattle.std.specs.Prelude.{◌≡◌, ℕ, ◌<◌, ◌≤◌, ◌==◌, ◌&&◌, not, Bool, true, false, List, [], ◌∷◌, length, Some, is_none}
use Rattle.std.specs.List.{AllByRecursion}
use Rattle.std.specs.List.{All, list_any}
use Rattle.tl_types.specs.declared.channel.Channel.{Channel}
use Rattle.tl_map.specs.Limits.{IsLawful}
use Rattle.tl_map.specs.Places.{set_of}
use Rattle.tl_protocol.specs.declared.home.Outward.TheVariants.{Quiet}
use Rattle.tl_protocol.specs.Protocol.{Block, block_of}
use Rattle.tl_protocol_lanes.specs.Lawful.{Lawful}
use Rattle.tl_links.specs.Table.{lane_in}
use Rattle.tl_copies.specs.Copies.{held_at, clients_of}
use Rattle.tl_registers.specs.declared.register.Register.{Register}
use Rattle.tl_registers.specs.Agree.{Agree}
use Rattle.tl_registers.specs.Pending.{grant_pending}
use Rattle.tl_registers.specs.Register.{works_on}
use Rattle.tl_registers.specs.Registers.{is_held, register_of}
use Rattle.tl_registers.specs.VictimWay.{IsInOrder}
use Rattle.tl_bank_spec.specs.Kept.{accepted_by}
use Rattle.tl_bank_spec.specs.Ways.{lies_in, slot_at, slots_at}
use Rattle.tl_bank_spec.specs.View.{View, shape_of, end_at, client_at}
use Rattle.tl_bank_spec.specs.Own.{IsOwn, way_at}
use Rattle.tl_bank_spec.specs.Clock.{StampsRise, clock_of}
use Rattle.tl_bank_spec.specs.Channels.{lane_at}
use Rattle.tl_bank_laws.specs.Entry.{entry_of}
use Rattle.tl_bank_home.specs.Homes.{HomeState, bank_in, geometry_in, line_in, recorded_in, outward_in, memory_in, way_in, free_at, order_at}
use Rattle.tl_bank_laws.specs.Layers.{Layers}

-- ## Home

-- home's part of a block is this
pub record IsHomeOf (home : HomeState) (block : ℕ) (s : Block) : Type 0 where
  pub line : line_in home block ≡ s.home
  pub recorded : (c : ℕ) → recorded_in home c block ≡ (s.client c).recorded
  pub outward : outward_in home block ≡ s.outward
  pub memory : memory_in home block ≡ s.memory

-- ## The registers, and the ways that they hold

-- the open registers agree with what the log leaves, and are no more than the bank has
pub record RegistersFit (v : View) : Type 0 where
  pub agree : Agree (shape_of v.geometry) (end_at v) v.registers
  pub few : length v.registers ≤ v.geometry.registers

-- A register holds a way of its own block's set: the blocks that it works on lie there or nowhere, and no other block does.
pub record HoldsWay (v : View) (r : Register) : Type 0 where
  pub inside : r.way.way < v.geometry.ways
  pub own : (b : ℕ) → works_on r b ≡ true → IsOwn v.geometry v.number b × (set_of v.geometry b ≡ r.way.set)
  pub lies : (b w : ℕ) → works_on r b ≡ true → way_at v b ≡ Some w → w ≡ r.way.way
  pub alone : (b : ℕ) → b < v.geometry.memory_blocks → lies_in v r.way.set r.way.way b ≡ true → works_on r b ≡ true

-- no two registers hold one way
abbrev pub WaysApart : List Register → Type 0
WaysApart [] = Unit {0}
WaysApart (r ∷ rest) = (is_held r.way rest ≡ false) × WaysApart rest

-- a register holds the way, and its block has no Grant yet
abbrev pub is_filling_by : View → ℕ → ℕ → Register → Bool
is_filling_by v set way r =
    ((r.way.set == set) && (r.way.way == way)) && not (grant_pending (shape_of v.geometry) (end_at v r.own))

-- what comes into the way was not granted since
abbrev pub is_filling : View → ℕ → ℕ → Bool
is_filling v set way = list_any (is_filling_by v set way) v.registers

-- The view, home, the registers and the log agree on the ways of the bank's blocks.
pub record WaysFit (v : View) (home : HomeState) : Type 0 where
  -- each block lies where home has it
  pub shown : (b : ℕ) → b < v.geometry.memory_blocks → way_at v b ≡ way_in home b
  -- a block of this bank that lies somewhere lies in one of the ways, alone
  pub inside : (b w : ℕ) → IsOwn v.geometry v.number b → way_at v b ≡ Some w → w < v.geometry.ways
  pub once :
      (a b w : ℕ) → IsOwn v.geometry v.number a → IsOwn v.geometry v.number b → set_of v.geometry a ≡ set_of v.geometry b
      → way_at v a ≡ Some w → way_at v b ≡ Some w → a ≡ b
  -- home holds the blocks that lie somewhere
  pub holds : (b : ℕ) → IsOwn v.geometry v.number b → is_none (end_at v b).home ≡ is_none (way_at v b)
  -- a way is free where no block lies in it
  pub free :
      (set way : ℕ) → set < v.geometry.sets → way < v.geometry.ways → free_at home set way ≡ is_none (slot_at v set way)
  -- the registers hold ways of their own
  pub held : AllByRecursion (HoldsWay v) v.registers
  pub apart : WaysApart v.registers
  -- the ways of a set stand in the order of their blocks' last Grants
  pub orders :
      (set : ℕ) → set < v.geometry.sets → IsInOrder (slots_at v set) (is_filling v set) v.log (order_at home set)

-- ## All layers

-- A view and the layers of one bank agree: the log is lawful, and each layer holds what it leaves.
pub record Means (v : View) (layers : Layers) : Type 0 where
  -- the log is a run that takes the messages of each channel in order, on own blocks, and its stamps rise
  pub lawful : Lawful (shape_of v.geometry) v.image v.log
  pub own : All (λ e. IsOwn v.geometry v.number (block_of (shape_of v.geometry) e)) v.log
  pub rising : StampsRise v.log
  -- the messages that wait are of own blocks
  pub inside : (c : ℕ) (k : Channel) → All (λ x. IsOwn v.geometry v.number x.block) (lane_at v c k).messages
  -- each layer holds what the run leaves
  pub lanes : (c : ℕ) (k : Channel) → c < v.geometry.clients → lane_in layers.links c k ≡ lane_at v c k
  pub copies :
      (c b : ℕ) → c < v.geometry.clients → b < v.geometry.memory_blocks → held_at layers.copies c b ≡ entry_of (client_at v c b)
  pub home : (b : ℕ) → IsOwn v.geometry v.number b → IsHomeOf layers.home b (end_at v b)
  -- of no other block does anything pass
  pub quiet : (b : ℕ) → (IsOwn v.geometry v.number b → ⊥) → outward_in layers.home b ≡ Quiet
  pub accepted : (b : ℕ) → (end_at v b).accepted ≡ accepted_by (register_of b v.registers)
  pub registers : RegistersFit v
  pub ways : WaysFit v layers.home
  pub clock : layers.clock ≡ clock_of v.log
  -- the layers are of this bank and this geometry
  pub geometry : IsLawful v.geometry
  pub links_bank : layers.links.bank ≡ v.number
  pub links_clients : layers.links.clients ≡ v.geometry.clients
  pub copies_clients : clients_of layers.copies ≡ v.geometry.clients
  pub copies_blocks : layers.copies.blocks ≡ v.geometry.memory_blocks
  pub copies_limit : layers.copies.limit ≡ v.geometry.copies
  pub home_geometry : geometry_in layers.home ≡ v.geometry
  pub home_bank : bank_in layers.home ≡ v.number
  pub limit : layers.limit ≡ v.geometry.registers
