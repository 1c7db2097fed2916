-- The clients' copies, as a map from client and block, and for each client the order in which they were granted (this
-- project's own).
use Rattle.std.specs.Prelude.{◌≡◌, ℕ, ◌==◌, ◌&&◌, Bool, List, [], ◌∷◌, ◌++◌, length, map, slice_index_or, Option, is_some, if◌then◌else◌}
use Rattle.tl_types.specs.Count.{count_below}
use Rattle.tl_copies.specs.declared.held.Held.{Held}
use Rattle.tl_copies.specs.Held.{has_copy}
use Rattle.tl_copies.specs.Entries.{Entry, found}

-- the bank, the most entries of a client, the blocks of the memory, and a table for each client
pub record Tables : Type 0 where
  pub bank : ℕ
  pub limit : ℕ
  pub blocks : ℕ
  pub tables : List (List Entry)

-- how many clients have a table
unfoldable pub clients_of : Tables → ℕ
clients_of v = length v.tables

-- what a client holds of a block, if its table has an entry of it
unfoldable pub held_at : Tables → ℕ → ℕ → Option Held
held_at v client block = found block (slice_index_or v.tables client [])

-- the blocks of a client's entries, the one granted longest ago first
unfoldable pub order_in : Tables → ℕ → List ℕ
order_in v client = map (λ (e : Entry). e.block) (slice_index_or v.tables client [])

-- whether the client x and the block y are these
abbrev pub is_cell : ℕ → ℕ → ℕ → ℕ → Bool
is_cell client block x y = (x == client) && (y == block)

-- how many entries a client's table has
abbrev pub entries : Tables → ℕ → ℕ
entries v client = count_below (λ block. is_some (held_at v client block)) v.blocks

-- how many copies a client has
abbrev pub copies : Tables → ℕ → ℕ
copies v client = count_below (λ block. has_copy (held_at v client block)) v.blocks

-- the order without a block
abbrev pub order_without : ℕ → List ℕ → List ℕ
order_without block [] = []
order_without block (x ∷ rest) = if x == block then rest else x ∷ order_without block rest

-- the order after a copy of a block is kept: the block goes last if it was granted, and else stays
abbrev pub order_after : Bool → ℕ → List ℕ → List ℕ
order_after granted block order = if granted then order_without block order ++ block ∷ [] else order

-- the bank, the limit, the blocks and the clients stay
pub record SameSize (old new : Tables) : Type 0 where
  pub bank : new.bank ≡ old.bank
  pub limit : new.limit ≡ old.limit
  pub blocks : new.blocks ≡ old.blocks
  pub clients : clients_of new ≡ clients_of old
