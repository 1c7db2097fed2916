-- What passes between home and the memory, of the few blocks of which anything does (TileLink 1.8, sections 6 and 8; the list is
-- this project's own).
use Rattle.std.specs.Prelude.{◌≡◌, ◌≢◌, ℕ, ◌<◌, ◌≤◌, ◌==◌, List, [], ◌∷◌, length, slice_index_or, if◌then◌else◌}
use Rattle.tl_protocol.specs.declared.home.Outward.{Outward}
use Rattle.tl_protocol.specs.declared.home.Outward.TheVariants.{Quiet}
use Rattle.tl_bank_home.specs.declared.crossings.Crossing.{Crossing}

-- what passes of a block
abbrev pub outward_of : ℕ → List Crossing → Outward
outward_of block [] = Quiet
outward_of block (first ∷ rest) = if first.block == block then first.outward else outward_of block rest

-- no block stands twice, and of each something passes
abbrev pub AreApart : List Crossing → Type 0
AreApart [] = Unit {0}
AreApart (first ∷ rest) = (first.outward ≢ Quiet) × (outward_of first.block rest ≡ Quiet) × AreApart rest

-- such a list has at most eight
pub record AreCrossings (list : List Crossing) : Type 0 where
  pub apart : AreApart list
  pub few : length list ≤ 8

-- the list without the first that is of a block
abbrev pub without_crossing : ℕ → List Crossing → List Crossing
without_crossing block [] = []
without_crossing block (first ∷ rest) = if first.block == block then rest else first ∷ without_crossing block rest

-- a place is that of the first of a block
pub record IsPlace (block : ℕ) (list : List Crossing) (place : ℕ) : Type 0 where
  pub inside : place < length list
  pub here : (d : Crossing) → (slice_index_or list place d).block ≡ block
  pub first : (k : ℕ) (d : Crossing) → k < place → (slice_index_or list k d).block ≢ block
