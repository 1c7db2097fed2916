-- The ways of all sets: a map from blocks, by set and tag, to entries with their ways, and an order for each set (this
-- project's own).
use Rattle.std.specs.Prelude.{◌≡◌, ℕ, ◌<◌, ◌≤◌, List, [], length, Option, None, slice_index_or, is_none}
use Rattle.tl_ways.specs.Entries.{Entry}
use Rattle.tl_ways.specs.Orders.{chosen, rising}
use Rattle.tl_ways.specs.Rows.{Row, entry_in, tag_in_entry}

-- the ways of each set, and how many each has
pub record WayTable : Type 0 where
  pub ways : ℕ
  pub rows : List Row

-- the ways of a set that is not there
abbrev pub no_row : Row
no_row = record { entries = []; order = [] }

-- how many sets there are
unfoldable pub set_count : WayTable → ℕ
set_count table = length table.rows

-- the ways of a set
unfoldable pub row_at : WayTable → ℕ → Row
row_at table set = slice_index_or table.rows set no_row

-- the entry in a way of a set
unfoldable pub entry_at : WayTable → ℕ → ℕ → Option Entry
entry_at table set way = entry_in (row_at table set) way

-- the order of a set's ways
unfoldable pub order_at : WayTable → ℕ → List ℕ
order_at table set = (row_at table set).order

-- the tag of the block in a way of a set
abbrev pub tag_at : WayTable → ℕ → ℕ → Option ℕ
tag_at table set way = tag_in_entry (entry_at table set way)

-- the way of a set that is taken next
abbrev pub chosen_at : WayTable → ℕ → List ℕ → Option ℕ
chosen_at table set busy = chosen (λ way. is_none (entry_at table set way)) table.ways (order_at table set) busy

-- each set has as many ways
pub record IsTable (table : WayTable) : Type 0 where
  pub same : (set : ℕ) → set < length table.rows → length (slice_index_or table.rows set no_row).entries ≡ table.ways
  pub few_sets : length table.rows ≤ 64
  pub few_ways : table.ways ≤ 8

-- as many sets and ways as before
pub record IsSameSize (old new : WayTable) : Type 0 where
  pub sets : set_count new ≡ set_count old
  pub ways : new.ways ≡ old.ways

-- at making no way holds a block, and the order of each set rises
pub record IsFresh (set_number way_number : ℕ) (table : WayTable) : Type 0 where
  pub sets : set_count table ≡ set_number
  pub ways : table.ways ≡ way_number
  pub free : (set way : ℕ) → entry_at table set way ≡ None
  pub orders : (set : ℕ) → set < set_number → order_at table set ≡ rising way_number
