-- Which way an Acquire takes whose block home lacks, and the order of a set's ways that gives it (this project's own).
use Rattle.std.specs.Prelude.{◌≡◌, ℕ, ◌+◌, ◌<◌, ◌≤◌, ◌==◌, ◌&&◌, ◌||◌, not, Bool, true, false, List, [], ◌∷◌, ◌++◌, length, Option, Some, None, if◌then◌else◌, find, slice_index_or, slice_set}
use Rattle.tl_ways.specs.Orders.{IsAmong, touched}
use Rattle.tl_types.specs.Lowest.{lowest}
use Rattle.tl_protocol.specs.declared.event.Event.{Event}
use Rattle.tl_protocol.specs.declared.event.Event.TheVariants.{SendGrant}

-- ## The victim way
-- `slots` is the block in each way of the set, where there is one; `held` says which of its ways registers hold.

-- the event is a Grant of the block
abbrev pub grants_block : ℕ → Event → Bool
grants_block block (SendGrant c b) = b == block
grants_block block e = false

-- where the last Grant of a block stands among these events, counted on from n; `found` where there is none
abbrev pub last_grant_from : ℕ → ℕ → Option ℕ → List Event → Option ℕ
last_grant_from block n found [] = found
last_grant_from block n found (e ∷ es) = last_grant_from block (n + 1) (if grants_block block e then Some n else found) es

-- where in the log the last Grant of a block stands, if one was sent
abbrev pub last_grant : ℕ → List Event → Option ℕ
last_grant block log = last_grant_from block 0 None log

-- one place in a log is no later than another; what was never sent is no later than anything
abbrev pub IsNotAfter : Option ℕ → Option ℕ → Type 0
IsNotAfter None later = Unit {0}
IsNotAfter (Some place) None = ⊥
IsNotAfter (Some place) (Some later) = place ≤ later

-- the block in a way of the set, where there is one
abbrev pub block_in : List (Option ℕ) → ℕ → Option ℕ
block_in slots w = slice_index_or slots w None

-- no block is in the way
abbrev pub is_free : Option ℕ → Bool
is_free None = true
is_free (Some block) = false

-- A way that no register holds, and of those one whose block was granted longest ago.
pub record IsOldest (slots : List (Option ℕ)) (held : ℕ → Bool) (log : List Event) (w : ℕ) : Type 0 where
  pub inside : w < length slots
  pub not_held : held w ≡ false
  pub oldest :
      (v block other : ℕ) → v < length slots → held v ≡ false → block_in slots w ≡ Some block → block_in slots v ≡ Some other
      → IsNotAfter (last_grant block log) (last_grant other log)

-- the lowest free way that no register holds
abbrev pub lowest_free : List (Option ℕ) → (ℕ → Bool) → Option ℕ
lowest_free slots held = lowest (λ w. is_free (block_in slots w) && not (held w)) (length slots)

-- the way is the free one that is given, or where none is given an oldest one
abbrev pub IsFreeOrOldest : Option ℕ → List (Option ℕ) → (ℕ → Bool) → List Event → ℕ → Type 0
IsFreeOrOldest (Some free) slots held log w = w ≡ free
IsFreeOrOldest None slots held log w = IsOldest slots held log w

-- the way that is taken: of those that no register holds the lowest free one, else the oldest
abbrev pub IsChosen : List (Option ℕ) → (ℕ → Bool) → List Event → ℕ → Type 0
IsChosen slots held log w = IsFreeOrOldest (lowest_free slots held) slots held log w

-- ## The order in which a set's ways were granted
-- `filling` says which ways have a block that was not granted since it came there. Registers hold them.

-- the block of a way was granted no later than that of another, where both have been
abbrev pub IsNoLater : List (Option ℕ) → (ℕ → Bool) → List Event → ℕ → ℕ → Type 0
IsNoLater slots filling log w v =
    (block other : ℕ) → filling w ≡ false → filling v ≡ false → block_in slots w ≡ Some block → block_in slots v ≡ Some other
    → IsNotAfter (last_grant block log) (last_grant other log)

-- each stands in a relation to all that come after it
abbrev pub EachBefore : (ℕ → ℕ → Type 0) → List ℕ → Type 0
EachBefore R [] = Unit {0}
EachBefore R (w ∷ rest) = ((v : ℕ) → IsAmong v rest → R w v) × EachBefore R rest

-- The order has just the ways of the set, and its blocks' last Grants rise along it.
pub record IsInOrder (slots : List (Option ℕ)) (filling : ℕ → Bool) (log : List Event) (order : List ℕ) : Type 0 where
  pub rises : EachBefore (IsNoLater slots filling log) order
  pub all : (w : ℕ) → w < length slots → IsAmong w order
  pub only : (w : ℕ) → IsAmong w order → w < length slots

-- the block stands in at most one way
abbrev pub StandsOnce : List (Option ℕ) → ℕ → Type 0
StandsOnce slots block = (w v : ℕ) → block_in slots w ≡ Some block → block_in slots v ≡ Some block → v ≡ w

-- ## The laws

-- The first way of the order that no register holds is the one granted longest ago.
abbrev pub FirstInOrderIsOldest : Type 0
FirstInOrderIsOldest =
    (slots : List (Option ℕ)) (held filling : ℕ → Bool) (log : List Event) (order : List ℕ) (w : ℕ)
    → IsInOrder slots filling log order → ((v : ℕ) → filling v ≡ true → held v ≡ true) → find (λ v. not (held v)) order ≡ Some w
    → IsOldest slots held log w

-- A set whose ways are all free is in any order that has just its ways.
abbrev pub FreeSetIsInOrder : Type 0
FreeSetIsInOrder =
    (slots : List (Option ℕ)) (filling : ℕ → Bool) (log : List Event) (order : List ℕ)
    → ((w : ℕ) → block_in slots w ≡ None) → ((w : ℕ) → w < length slots → IsAmong w order)
    → ((w : ℕ) → IsAmong w order → w < length slots) → IsInOrder slots filling log order

-- A Grant whose way is touched keeps the order, and that way is not filling any more.
abbrev pub GrantKeepsOrder : Type 0
GrantKeepsOrder =
    (slots : List (Option ℕ)) (filling : ℕ → Bool) (log : List Event) (order : List ℕ) (w block c : ℕ)
    → IsInOrder slots filling log order → w < length slots → block_in slots w ≡ Some block → StandsOnce slots block
    → IsInOrder slots (λ v. filling v && not (v == w)) (log ++ SendGrant c block ∷ []) (touched w order)

-- An event that grants no block of the set keeps it.
abbrev pub OtherEventsKeepOrder : Type 0
OtherEventsKeepOrder =
    (slots : List (Option ℕ)) (filling : ℕ → Bool) (log : List Event) (order : List ℕ) (e : Event)
    → IsInOrder slots filling log order → ((w block : ℕ) → block_in slots w ≡ Some block → grants_block block e ≡ false)
    → IsInOrder slots filling (log ++ e ∷ []) order

-- A block that comes into a way keeps it: the way is filling then.
abbrev pub PlacingKeepsOrder : Type 0
PlacingKeepsOrder =
    (slots : List (Option ℕ)) (filling : ℕ → Bool) (log : List Event) (order : List ℕ) (w block : ℕ)
    → IsInOrder slots filling log order
    → IsInOrder (slice_set slots w (Some block)) (λ v. filling v || (v == w)) log order

-- A way that is emptied keeps it.
abbrev pub ClearingKeepsOrder : Type 0
ClearingKeepsOrder =
    (slots : List (Option ℕ)) (filling : ℕ → Bool) (log : List Event) (order : List ℕ) (w : ℕ)
    → IsInOrder slots filling log order → IsInOrder (slice_set slots w None) filling log order
