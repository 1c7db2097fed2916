-- Which blocks are a bank's, and in which ways they lie (this project's own).
use Rattle.std.specs.Prelude.{◌≡◌, ℕ, zero, suc, ◌<◌, List, [], ◌∷◌, ◌++◌, Option, None, slice_index_or}
use Rattle.tl_map.specs.Numbers.{Numbers}
use Rattle.tl_map.specs.Places.{bank_of}
use Rattle.tl_bank_spec.specs.View.{View}

-- a block of the memory, of a bank
abbrev pub IsOwn : Numbers → ℕ → ℕ → Type 0
IsOwn g number block = (block < g.memory_blocks) × (bank_of g block ≡ number)

-- the way in which a block lies, where home holds it
abbrev pub way_at : View → ℕ → Option ℕ
way_at v block = slice_index_or v.ways block None

-- what a function says of each of the first n blocks, by block
abbrev pub ways_below : (ℕ → Option ℕ) → ℕ → List (Option ℕ)
ways_below lies zero = []
ways_below lies (suc n) = ways_below lies n ++ lies n ∷ []
