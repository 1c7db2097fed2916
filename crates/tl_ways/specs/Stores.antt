-- The bytes of home's copies, beside the entries of their ways (this project's own).
use Rattle.std.specs.Prelude.{◌≡◌, ℕ, ◌+◌, ◌*◌, ◌≤◌, List, [], length, slice_index_or}

-- the bytes of each way of each set, one set after another
pub record Store : Type 0 where
  pub sets : ℕ
  pub ways : ℕ
  pub blocks : List (List ℕ)

-- the bytes of a way of a set
unfoldable pub bytes_at : Store → ℕ → ℕ → List ℕ
bytes_at store set way = slice_index_or store.blocks (set * store.ways + way) []

-- there is a place for each way of each set
pub record IsStore (store : Store) : Type 0 where
  pub all : length store.blocks ≡ store.sets * store.ways
  pub few_sets : store.sets ≤ 64
  pub few_ways : store.ways ≤ 8
