-- The ways of one set (this project's own).
use Rattle.std.specs.Prelude.{◌≡◌, ℕ, ◌<◌, ◌≤◌, List, length, Option, None, Some, slice_index_or, is_none}
use Rattle.tl_ways.specs.Entries.{Entry}
use Rattle.tl_ways.specs.Orders.{IsAmong, chosen}

-- the entry of each way of a set, and the order of the ways
pub record Row : Type 0 where
  pub entries : List (Option Entry)
  pub order : List ℕ

-- the entry of a way
abbrev pub entry_in : Row → ℕ → Option Entry
entry_in row way = slice_index_or row.entries way None

-- the tag of an entry
abbrev pub tag_in_entry : Option Entry → Option ℕ
tag_in_entry None = None
tag_in_entry (Some entry) = Some entry.tag

-- the tag of the block in a way
abbrev pub tag_in : Row → ℕ → Option ℕ
tag_in row way = tag_in_entry (entry_in row way)

-- the way that is taken next
abbrev pub chosen_in : Row → List ℕ → Option ℕ
chosen_in row busy = chosen (λ way. is_none (entry_in row way)) (length row.entries) row.order busy

-- no block is in two ways, and each way is in the order
pub record IsRow (row : Row) : Type 0 where
  pub distinct : (tag v w : ℕ) → tag_in row v ≡ Some tag → tag_in row w ≡ Some tag → v ≡ w
  pub all : (way : ℕ) → way < length row.entries → IsAmong way row.order
  pub only : (way : ℕ) → IsAmong way row.order → way < length row.entries
  pub short : length row.order ≤ 8

-- ways of which none holds a block
pub record IsEmpty (ways : ℕ) (row : Row) : Type 0 where
  pub entries : length row.entries ≡ ways
  pub free : (way : ℕ) → entry_in row way ≡ None
