-- One client's table: its entries, the one granted longest ago first. No public clause cites this module.
use Rattle.std.specs.Prelude.{◌≡◌, ◌≢◌, ℕ, ◌<◌, ◌≤◌, ◌==◌, List, [], ◌∷◌, ◌++◌, length, Option, Some, None, if◌then◌else◌, slice_index_or}
use Rattle.tl_copies.specs.declared.held.Held.{Held}
use Rattle.tl_copies.specs.Held.{is_copy, is_renewed_entry}

-- what a client holds of a block, with the block
pub record Entry : Type 0 where
  pub block : ℕ
  pub held : Held

-- what the table has of a block
abbrev pub found : ℕ → List Entry → Option Held
found block [] = None
found block (e ∷ rest) = if e.block == block then Some e.held else found block rest

-- the table without its first entry of a block
abbrev pub without_entry : ℕ → List Entry → List Entry
without_entry block [] = []
without_entry block (e ∷ rest) = if e.block == block then rest else e ∷ without_entry block rest

-- the table with another copy in its first entry of a block
abbrev pub replaced : ℕ → Held → List Entry → List Entry
replaced block held [] = []
replaced block held (e ∷ rest) = if e.block == block then record { block = block; held = held } ∷ rest else e ∷ replaced block held rest

-- the table after a copy is kept: last if its entry is new or its Grant came, else in its entry's place
abbrev pub kept : ℕ → Held → List Entry → List Entry
kept block held es =
    if is_renewed_entry (found block es) held then without_entry block es ++ record { block = block; held = held } ∷ [] else replaced block held es

-- the first entry that is a copy
abbrev pub oldest_in : List Entry → Option ℕ
oldest_in [] = None
oldest_in (e ∷ rest) = if is_copy e.held then Some e.block else oldest_in rest

-- a place is that of the first entry of a block
pub record IsPlace (block : ℕ) (es : List Entry) (place : ℕ) : Type 0 where
  pub inside : place < length es
  pub here : (d : Entry) → (slice_index_or es place d).block ≡ block
  pub first : (k : ℕ) (d : Entry) → k < place → (slice_index_or es k d).block ≢ block

-- no block stands twice, and each is of the memory
abbrev pub AreApart : ℕ → List Entry → Type 0
AreApart blocks [] = Unit {0}
AreApart blocks (e ∷ rest) = (e.block < blocks) × (found e.block rest ≡ None) × AreApart blocks rest

-- no block stands twice
abbrev pub HasEachOnce : List Entry → Type 0
HasEachOnce es = (blocks : ℕ) × AreApart blocks es

-- a table of at most so many entries
pub record IsTable (limit blocks : ℕ) (es : List Entry) : Type 0 where
  pub short : length es ≤ limit
  pub apart : AreApart blocks es
