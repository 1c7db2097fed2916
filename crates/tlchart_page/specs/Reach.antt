-- Which cells a step may change: of the bank that it is asked of, the parts of the block that the bank's last event is of, the set of
-- that block, and each channel and the registers (this project's own).
use Rattle.std.specs.Prelude.{◌≡◌, ℕ, ◌==◌, ◌&&◌, Bool, true, false, List, [], ◌∷◌, ◌++◌, length, slice_get, Option, Some, None}
use Rattle.tl_map.specs.Numbers.{Numbers}
use Rattle.tl_map.specs.Places.{set_of}
use Rattle.tl_protocol.specs.Protocol.{block_of}
use Rattle.tl_protocol.specs.declared.event.Event.{Event}
use Rattle.tl_bank_spec.specs.View.{View, shape_of}
use Rattle.tl_trace.specs.NetworkState.{NetworkState, bank_at}
use Rattle.tlchart_page.specs.Parts.{cell_text}
use Rattle.tlchart_page.specs.declared.parts.Part.{Part}
use Rattle.tlchart_page.specs.declared.parts.Part.TheVariants as part
use Rattle.tlchart_page.specs.declared.parts.Cell.{Cell}
use Rattle.tlchart_page.specs.declared.reach.Spot.{Spot}
use Rattle.tlchart_page.specs.declared.reach.Reach.{Reach}

-- A spot is that of an event: its block, and the set of that block.
pub record IsSpotOf (g : Numbers) (event : Event) (spot : Spot) : Type 0 where
  pub block : spot.block ≡ block_of (shape_of g) event
  pub set : spot.set ≡ set_of g spot.block

-- It is that of the last event of a bank's log.
pub record IsLastSpot (v : View) (spot : Spot) : Type 0 where
  pub before : List Event
  pub event : Event
  pub log : v.log ≡ before ++ event ∷ []
  pub of : IsSpotOf v.geometry event spot

-- the same, where the bank is there
abbrev pub IsSpotIn : Option View → Spot → Type 0
IsSpotIn None spot = ⊥
IsSpotIn (Some v) spot = IsLastSpot v spot

-- the spot, where it is known, is that of a bank's last event
abbrev pub IsKnownSpot : Option View → Option Spot → Type 0
IsKnownSpot bank None = Unit {0}
IsKnownSpot bank (Some spot) = IsSpotIn bank spot

-- whether what happens to a block may change a part of its bank
abbrev pub touches : Spot → Part → Bool
touches spot (part.Client client block) = block == spot.block
touches spot (part.Home block) = block == spot.block
touches spot (part.Memory block) = block == spot.block
touches spot (part.Channel client channel) = true
touches spot (part.Set set) = set == spot.set
touches spot part.Registers = true

-- the same, where the block is known; else each part may have changed
abbrev pub touches_if : Option Spot → Part → Bool
touches_if None p = true
touches_if (Some spot) p = touches spot p

-- whether a step that reaches so far may change what a cell shows
abbrev pub may_change : Reach → Cell → Bool
may_change reach cell = (cell.bank == reach.bank) && touches_if reach.spot cell.part

-- A state shows what the cells show, but for those that a step may have changed.
pub record IsShownBut (network : NetworkState) (cells : List Cell) (reach : Reach) (state : List (List ℕ)) : Type 0 where
  pub size : length state ≡ length cells
  pub shown :
      (place : ℕ) (cell : Cell) → slice_get cells place ≡ Some cell → may_change reach cell ≡ false
      → slice_get state place ≡ Some (cell_text network cell)
