-- The blocks that are found at home where its ways are looked at one after another. No public clause cites this module.
use Rattle.std.specs.Prelude.{◌≡◌, ℕ, ◌+◌, ◌*◌, ◌≤◌, ◌==◌, Bool, false, List, length, count_by, Option, Some, None, nat_lt, if◌then◌else◌}
use Rattle.tl_map.specs.Places.{set_of}
use Rattle.tl_bank_spec.specs.View.{View}
use Rattle.tl_bank_spec.specs.Own.{way_at}
use Rattle.tl_bank_spec.specs.Views.{not_own}

-- one if a test is met
abbrev pub one_of : Bool → ℕ
one_of t = if t then 1 else 0

-- how often a number stands in a list
abbrev pub times : ℕ → List ℕ → ℕ
times b xs = count_by (λ x. x == b) xs

-- a way of a set with this first place comes before a place
abbrev pub comes_before : ℕ → ℕ → Option ℕ → Bool
comes_before first place None = false
comes_before first place (Some way) = nat_lt (first + way) place

-- a block of the bank lies before a place, where the ways of all sets are one row of places
abbrev pub lies_before : View → ℕ → ℕ → Bool
lies_before v place b = if not_own v b then false else comes_before (set_of v.geometry b * v.geometry.ways) place (way_at v b)

-- the blocks found before a place: each that lies there once, and no other
pub record AreFound (v : View) (place : ℕ) (found : List ℕ) : Type 0 where
  pub few : length found ≤ place
  pub each : (b : ℕ) → times b found ≡ one_of (lies_before v place b)
