-- What is sent, and what is looked up of what is not. No public clause cites it.
use Rattle.std.specs.Prelude.{◌≡◌, ◌<◌, ◌≤◌, ◌+◌, ◌*◌, ℕ, List, Option, Some, None, length, slice_get, slice_set}
use Rattle.tl_types.specs.declared.channel.Channel.TheVariants.{D}
use Rattle.tl_protocol.specs.declared.shape.Shape.{Shape}
use Rattle.tlwire_search.specs.Explained.{wire_of}
use Rattle.tlwire_search.specs.Lists.{IsNextOn, number_of}
use Rattle.tlwire_search.specs.Sought.{IsLike}
use Rattle.tlwire_search.specs.declared.seen.Seen.{Seen}
use Rattle.tlwire_search.specs.declared.seen.Wire.{Wire}
use Rattle.tlwire_search.specs.declared.seen.Wire.TheVariants.{Link}
use Rattle.tlwire_search.specs.declared.sought.Sought.{Sought}
use Rattle.tlwire_search.specs.declared.sought.Sought.TheVariants.{Grant}
use Rattle.tlwire_search.specs.declared.wires.Wires.{Wires}

-- nothing is sent: the first on each wire is next
pub record IsFresh (shape : Shape) (seen : List Seen) (w : Wires) : Type 0 where
  pub of_shape : w.shape ≡ shape
  pub of_seen : w.seen.now ≡ seen
  pub wires : length w.next.items ≡ 2 + shape.clients * 6
  pub next : (wire place : ℕ) → slice_get w.next.items wire ≡ Some place → IsNextOn seen wire 0 place

-- one more is sent on a wire: the first on it behind what was next is next, if anything was; on the others all is as it was
pub record IsAdvanced (old new : Wires) (wire : Wire) : Type 0 where
  pub shape : new.shape ≡ old.shape
  pub seen : new.seen.now ≡ old.seen.now
  pub moved : (place : ℕ) → slice_get old.next.items (number_of wire) ≡ Some place → place < length old.seen.now
      → (next : ℕ) × (new.next.items ≡ slice_set old.next.items (number_of wire) next)
      × IsNextOn old.seen.now (number_of wire) (place + 1) next
  pub still : ((place : ℕ) → slice_get old.next.items (number_of wire) ≡ Some place → length old.seen.now ≤ place)
      → new.next.items ≡ old.next.items

-- what was seen at a place is sent
abbrev pub IsSentAt : Wires → ℕ → Type 0
IsSentAt w place =
    (s : Seen) (next : ℕ)
    → slice_get w.seen.now place ≡ Some s → slice_get w.next.items (number_of (wire_of s)) ≡ Some next → place < next

-- something sought of a block stands there on a wire, and is not before what is next on it
pub record IsUnsentAt (w : Wires) (wire : Wire) (block : ℕ) (sought : Sought) (place : ℕ) : Type 0 where
  pub line : Seen
  pub next : ℕ
  pub at : slice_get w.seen.now place ≡ Some line
  pub is_next : slice_get w.next.items (number_of wire) ≡ Some next
  pub unsent : next ≤ place
  pub like : IsLike w.shape.block_bytes wire block sought line

-- it is the first of those that are not sent; or none is
abbrev pub IsFirstUnsent : Wires → Wire → ℕ → Sought → Option ℕ → Type 0
IsFirstUnsent w wire block sought None = (place : ℕ) → ¬ IsUnsentAt w wire block sought place
IsFirstUnsent w wire block sought (Some place) =
    IsUnsentAt w wire block sought place
    × ((earlier : ℕ) → earlier < place → ¬ IsUnsentAt w wire block sought earlier)

-- of the Grants of a block to so many clients that are not sent, the first is to this client; or none is unsent
abbrev pub IsGrantedFirst : Wires → ℕ → ℕ → Option ℕ → Type 0
IsGrantedFirst w clients block None = (x place : ℕ) → x < clients → ¬ IsUnsentAt w (Link x D) block Grant place
IsGrantedFirst w clients block (Some c) =
    (first : ℕ) × (c < clients) × IsUnsentAt w (Link c D) block Grant first
    × ((x place : ℕ) → x < clients → IsUnsentAt w (Link x D) block Grant place → first ≤ place)
