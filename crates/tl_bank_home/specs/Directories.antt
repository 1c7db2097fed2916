-- The directory with home's copies, by block (how it is kept is this project's own).
use Rattle.std.specs.Prelude.{◌≡◌, ℕ, ◌<◌, ◌≤◌, ◌==◌, Bool, false, List, Option, None, Some, is_none, if◌then◌else◌}
use Rattle.std.specs.Option.{option_map}
use Rattle.tl_types.specs.Lowest.{lowest}
use Rattle.tl_types.specs.declared.permission.Perm.{Perm}
use Rattle.tl_types.specs.declared.permission.Perm.TheVariants.{None as NoAccess}
use Rattle.tl_map.specs.Numbers.{Numbers}
use Rattle.tl_map.specs.Places.{bank_of, set_of, tag_of, place_of}
use Rattle.tl_protocol.specs.declared.home.Line.{Line}
use Rattle.tl_ways.specs.Entries.{Entry, IsOfClients, entry_perm}
use Rattle.tl_ways.specs.Orders.{touched}
use Rattle.tl_ways.specs.Tables.{WayTable, entry_at, order_at, set_count, tag_at}
use Rattle.tl_ways.specs.Stores.{Store, bytes_at}

-- the directory of one bank, and the bytes of each way
pub record Directory : Type 0 where
  pub geometry : Numbers
  pub bank : ℕ
  pub table : WayTable
  pub store : Store

-- ## A way

-- a way has this tag
abbrev pub has_tag : Option ℕ → ℕ → Bool
has_tag None tag = false
has_tag (Some other) tag = other == tag

-- the way of a set in which the block with a tag lies
abbrev pub way_by_tag : WayTable → ℕ → ℕ → Option ℕ
way_by_tag table set tag = lowest (λ way. has_tag (tag_at table set way) tag) table.ways

-- the entry of a way says that its block is dirty
abbrev pub dirty_in : Option Entry → Bool
dirty_in None = false
dirty_in (Some entry) = entry.dirty

-- the permission that an entry records for a client
abbrev pub perm_in : Option Entry → ℕ → Perm
perm_in None client = NoAccess
perm_in (Some entry) client = entry_perm entry client

-- the copy in a way of a set
abbrev pub copy_at : Directory → ℕ → ℕ → Line
copy_at d set way = record { bytes = bytes_at d.store set way; dirty = dirty_in (entry_at d.table set way) }

-- the permission recorded in a way of a set, where there is one
abbrev pub perm_in_way : Directory → ℕ → Option ℕ → ℕ → Perm
perm_in_way d set None client = NoAccess
perm_in_way d set (Some way) client = perm_in (entry_at d.table set way) client

-- ## A block

-- the way in which a block lies, if home holds it; none for a block of another bank
unfoldable pub way_of : Directory → ℕ → Option ℕ
way_of d block =
    if bank_of d.geometry block == d.bank then way_by_tag d.table (set_of d.geometry block) (tag_of d.geometry block) else None

-- home's copy of a block
unfoldable pub line_of : Directory → ℕ → Option Line
line_of d block = option_map (copy_at d (set_of d.geometry block)) (way_of d block)

-- the permission that home records for a client of a block
unfoldable pub recorded_of : Directory → ℕ → ℕ → Perm
recorded_of d client block = perm_in_way d (set_of d.geometry block) (way_of d block) client

-- no block lies in a way of a set
unfoldable pub free_in : Directory → ℕ → ℕ → Bool
free_in d set way = is_none (entry_at d.table set way)

-- the order of a set's ways: the one whose block was granted longest ago is first
unfoldable pub order_of : Directory → ℕ → List ℕ
order_of d set = order_at d.table set

-- a way is this one
abbrev pub is_way : Option ℕ → ℕ → Bool
is_way None way = false
is_way (Some found) way = way == found

-- the order of ways once this one, if there is one, is granted
abbrev pub order_after : Option ℕ → List ℕ → List ℕ
order_after None order = order
order_after (Some way) order = touched way order

-- ## What is kept

-- a set and a tag are those of a block of the memory, of one bank
pub record IsPlaced (g : Numbers) (bank set tag : ℕ) : Type 0 where
  pub block : ℕ
  pub inside : block < g.memory_blocks
  pub place : place_of g block ≡ record { bank = bank; set = set; tag = tag }

-- there is an entry and a place for bytes for each way of each set, and each entry is of a block of the memory that no
-- other way of the set has, and records the geometry's clients alone: no bit at or past their number is set
pub record IsDirectory (d : Directory) : Type 0 where
  pub sets : set_count d.table ≡ d.geometry.sets
  pub ways : d.table.ways ≡ d.geometry.ways
  pub store_sets : d.store.sets ≡ d.geometry.sets
  pub store_ways : d.store.ways ≡ d.geometry.ways
  pub outside : (set way : ℕ) → d.table.ways ≤ way → entry_at d.table set way ≡ None
  pub distinct : (set v w tag : ℕ) → tag_at d.table set v ≡ Some tag → tag_at d.table set w ≡ Some tag → v ≡ w
  pub placed : (set way : ℕ) (entry : Entry) → entry_at d.table set way ≡ Some entry → IsPlaced d.geometry d.bank set entry.tag
  pub clients : (set way : ℕ) (entry : Entry) → entry_at d.table set way ≡ Some entry → IsOfClients d.geometry.clients entry

-- where a block that home holds lies, and its entry
pub record IsHeld (d : Directory) (block set way : ℕ) (entry : Entry) : Type 0 where
  pub own : bank_of d.geometry block ≡ d.bank
  pub in_set : set ≡ set_of d.geometry block
  pub set_inside : set < set_count d.table
  pub lies : way_of d block ≡ Some way
  pub inside : way < d.table.ways
  pub line : entry_at d.table set way ≡ Some entry
  pub tag : entry.tag ≡ tag_of d.geometry block
  pub alone : (other : ℕ) → tag_at d.table set other ≡ Some entry.tag → other ≡ way

-- the geometry and the bank stay
pub record SameBank (old new : Directory) : Type 0 where
  pub geometry : new.geometry ≡ old.geometry
  pub bank : new.bank ≡ old.bank
