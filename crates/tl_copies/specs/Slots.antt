-- How a table keeps its entries: keys in order, and for each a slot with what is held. No public clause cites this module.
use Rattle.std.specs.Prelude.{◌≡◌, ◌≢◌, ℕ, ◌<◌, ◌+◌, ◌%◌, ◌≤◌, ◌==◌, List, [], length, map, count_by, slice_index, slice_index_or, false}
use Rattle.tl_types.specs.declared.permission.Perm.TheVariants.{None as p_None}
use Rattle.tl_types.specs.declared.wait.Awaited.TheVariants.{Nothing}
use Rattle.tl_copies.specs.declared.held.Held.{Held}
use Rattle.tl_copies.specs.declared.table.Key.{Key}
use Rattle.tl_copies.specs.Entries.{Entry}
use Rattle.tl_copies.specs.Held.{is_copy}
use Rattle.tl_types.specs.declared.limits.TheConstants.{COPIES}

-- what a slot that is not there would hold
abbrev pub blank : Held
blank = record { perm = p_None; dirty = false; bytes = []; wait = Nothing }

-- the entry of a key
abbrev pub entry_at : List Held → Key → Entry
entry_at slots key = record { block = key.block; held = slice_index_or slots key.slot blank }

-- the entries of keys, in their order
abbrev pub entries_of : List Held → List Key → List Entry
entries_of slots keys = map (λ (key : Key). entry_at slots key) keys

-- none of the first keys is a block's
abbrev pub IsNotBefore : ℕ → List Key → ℕ → Type 0
IsNotBefore block keys places = (k : ℕ) (d : Key) → k < places → (slice_index_or keys k d).block ≢ block

-- how many keys have a slot, or list it as free
abbrev pub uses : List Key → List ℕ → ℕ → ℕ
uses keys free slot = count_by (λ (key : Key). key.slot == slot) keys + count_by (λ x. x == slot) free

-- Each of at most `COPIES` slots has one key or is free, and no other has one. The number of entries that are copies is kept.
pub record IsSound (keys : List Key) (slots : List Held) (free : List ℕ) (copies : ℕ) : Type 0 where
  pub once : (slot : ℕ) → uses keys free slot ≤ 1
  pub inside : (slot : ℕ) → length slots ≤ slot → uses keys free slot ≡ 0
  pub few : length slots ≤ COPIES
  pub all : length keys + length free ≡ length slots
  pub counted : copies ≡ count_by (λ (e : Entry). is_copy e.held) (entries_of slots keys)

-- By hint, the low six bits of a block's number, the numbers are those of the keys of such blocks.
pub record AreCountedByHint (keys : List Key) (numbers : List ℕ) : Type 0 where
  pub all : length numbers ≡ 64
  pub numbered : (hint : ℕ) → hint < 64 → slice_index numbers hint ≡ count_by (λ (key : Key). key.block % 64 == hint) keys
