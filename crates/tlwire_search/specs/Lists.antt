-- The lists of lines by wire and block, by which what is unsent is looked up. No public clause cites these.
use Rattle.std.specs.Prelude.{◌≡◌, ◌≢◌, ◌<◌, ◌≤◌, ◌+◌, ◌-◌, ◌*◌, ◌%◌, ◌⊎◌, ℕ, List, Some, length}
use Rattle.std.specs.Prelude.{slice_get, slice_index, slice_set}
use Rattle.tl_types.specs.Channel.{channel_index}
use Rattle.tl_types.specs.declared.channel.Channel.TheVariants.{A, B, C, D, E}
use Rattle.tlwire_search.specs.Explained.{wire_of}
use Rattle.tlwire_search.specs.Where.{block_of}
use Rattle.tlwire_search.specs.declared.seen.Seen.{Seen}
use Rattle.tlwire_search.specs.declared.seen.Wire.{Wire}
use Rattle.tlwire_search.specs.declared.seen.Wire.TheVariants.{Link, Memory, Core}

-- a wire's number: the memory's two, then six of each client
abbrev pub number_of : Wire → ℕ
number_of (Memory A) = 0
number_of (Memory B) = 1
number_of (Memory C) = 1
number_of (Memory D) = 1
number_of (Memory E) = 1
number_of (Link client channel) = 2 + client * 6 + channel_index channel
number_of (Core client) = 7 + client * 6

-- the list of a block on a wire, where each wire has so many
abbrev pub list_of : ℕ → Wire → ℕ → ℕ
list_of width wire block = number_of wire * width + block % width

-- the list of something seen
abbrev pub list_at : ℕ → ℕ → Seen → ℕ
list_at width bytes s = list_of width (wire_of s) (block_of bytes s)

-- what stands at a place, if something does, is on the wire of this number
abbrev pub IsOnWire : List Seen → ℕ → ℕ → Type 0
IsOnWire seen wire place = (s : Seen) → slice_get seen place ≡ Some s → number_of (wire_of s) ≡ wire

-- what is next on each wire is on that wire
abbrev pub AreOfTheirWires : List Seen → List ℕ → Type 0
AreOfTheirWires seen next = (wire place : ℕ) → slice_get next wire ≡ Some place → IsOnWire seen wire place

-- a list begins no later than with the first of its lines that is not sent
abbrev pub BeginInTime : (Seen → ℕ) → List Seen → List ℕ → List ℕ → Type 0
BeginInTime list seen next first =
    (place from : ℕ) (s : Seen)
    → slice_get seen place ≡ Some s → slice_get next (number_of (wire_of s)) ≡ Some from → from ≤ place
    → slice_index first (list s) ≤ place

-- what begins at a place, if it does, is moved on to another one
abbrev pub IsMovedOn : List ℕ → List ℕ → ℕ → ℕ → ℕ → Type 0
IsMovedOn old new list place behind =
    (new ≡ old) ⊎ ((slice_index old list ≡ place) × (new ≡ slice_set old list behind))

-- between a line and a place behind it stands none of its list
abbrev pub HasNoneBetween : (Seen → ℕ) → List Seen → ℕ → ℕ → Type 0
HasNoneBetween list seen place to =
    (later : ℕ) (s t : Seen)
    → place < later → later < to → slice_get seen place ≡ Some s → slice_get seen later ≡ Some t → list s ≢ list t

-- how many lines of others are known to stand behind a line; the numbers stand from the last line on
abbrev pub gap_at : List ℕ → ℕ → ℕ → ℕ
gap_at gaps lines place = slice_index gaps (lines - 1 - place)

-- no gap passes over a line of the list
abbrev pub PassNoLine : (Seen → ℕ) → List Seen → List ℕ → Type 0
PassNoLine list seen gaps =
    (place later : ℕ) (s t : Seen)
    → place < later → slice_get seen place ≡ Some s → slice_get seen later ≡ Some t → list s ≡ list t
    → place + gap_at gaps (length seen) place < later

-- what stands at this place is the first on the wire of this number from another place on; behind all, where none is
pub record IsNextOn (seen : List Seen) (wire from place : ℕ) : Type 0 where
  pub on : from ≤ place
  pub within : place ≤ length seen
  pub there : IsOnWire seen wire place
  pub first : (k : ℕ) (s : Seen) → from ≤ k → k < place → slice_get seen k ≡ Some s → number_of (wire_of s) ≢ wire
