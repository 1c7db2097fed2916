-- In which way each block lies, and which way a register takes (this project's own).
use Rattle.std.specs.Prelude.{◌≡◌, ℕ, zero, suc, ◌==◌, ◌&&◌, not, Bool, false, List, [], ◌∷◌, ◌++◌, length, Option, Some, None, is_none, nat_le}
use Rattle.tl_types.specs.Lowest.{lowest}
use Rattle.tl_map.specs.Places.{bank_of, set_of}
use Rattle.tl_registers.specs.Registers.{is_held}
use Rattle.tl_registers.specs.VictimWay.{IsChosen}
use Rattle.tl_registers.specs.declared.way_of_set.WayOfSet.{WayOfSet}
use Rattle.tl_bank_spec.specs.View.{View}
use Rattle.tl_bank_spec.specs.Own.{way_at}

-- ## What lies where

-- there is a way, and it is this one
abbrev pub is_in_way : ℕ → Option ℕ → Bool
is_in_way way None = false
is_in_way way (Some lies) = lies == way

-- a block of the bank lies in a way of a set
abbrev pub lies_in : View → ℕ → ℕ → ℕ → Bool
lies_in v set way block =
    (bank_of v.geometry block == v.number) && ((set_of v.geometry block == set) && is_in_way way (way_at v block))

-- the block in a way of a set, where there is one
abbrev pub slot_at : View → ℕ → ℕ → Option ℕ
slot_at v set way = lowest (lies_in v set way) v.geometry.memory_blocks

-- what is in each of the first n ways of a set, by way
abbrev pub slots_below : View → ℕ → ℕ → List (Option ℕ)
slots_below v set zero = []
slots_below v set (suc n) = slots_below v set n ++ slot_at v set n ∷ []

-- what is in the ways of a set
abbrev pub slots_at : View → ℕ → List (Option ℕ)
slots_at v set = slots_below v set v.geometry.ways

-- ## Which ways are held

-- a set and the number of a way in it, as a register holds them
abbrev pub way_in_set : ℕ → ℕ → WayOfSet
way_in_set set way = record { set = set; way = way }

-- a register holds a way of a set
abbrev pub holds_way : View → ℕ → ℕ → Bool
holds_way v set way = is_held (way_in_set set way) v.registers

-- every way of a set is held
abbrev pub ways_held : View → ℕ → Bool
ways_held v set = is_none (lowest (λ way. not (holds_way v set way)) v.geometry.ways)

-- all registers are in use
abbrev pub registers_full : View → Bool
registers_full v = nat_le v.geometry.registers (length v.registers)

-- ## The way that a block's register holds

-- that of home's copy, else of those that no register holds the lowest free one, else the one whose block was granted longest
-- ago: that block is then the victim
abbrev pub IsWayFor : View → ℕ → Option ℕ → ℕ → Type 0
IsWayFor v set (Some lies) way = way ≡ lies
IsWayFor v set None way = IsChosen (slots_at v set) (holds_way v set) v.log way

-- the block that has to leave the way first
abbrev pub victim_of_way : View → ℕ → Option ℕ → ℕ → Option ℕ
victim_of_way v set (Some lies) way = None
victim_of_way v set None way = slot_at v set way
