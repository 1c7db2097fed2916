-- How long exchanges are open, by the cycles of what was seen.
use Rattle.std.specs.Prelude.{ℕ, ◌-◌, nat_lt, not, Bool, List, [], ◌∷◌, ◌&&◌, Option, Some, None, if◌then◌else◌, slice_get}
use Rattle.std.specs.Option.{is_none}
use Rattle.tlwire_exchanges.specs.declared.opened.Opened.{Opened}

-- a cycle that may be absent
abbrev pub cycle_or_zero : Option ℕ → ℕ
cycle_or_zero None = 0
cycle_or_zero (Some cycle) = cycle

-- the cycle of what was seen at a place
abbrev pub cycle_at : List ℕ → ℕ → ℕ
cycle_at cycles place = cycle_or_zero (slice_get cycles place)

-- until when an exchange is open: its answer, or the record's last line
abbrev pub until : List ℕ → ℕ → Option ℕ → ℕ
until cycles end None = end
until cycles end (Some place) = cycle_at cycles place

-- For how many cycles an exchange is open: 0 where its answer was written before it.
abbrev pub open_for : List ℕ → ℕ → Opened → ℕ
open_for cycles end o = until cycles end o.answer - cycle_at cycles o.place

-- no line answers it
abbrev pub is_open : Opened → Bool
is_open o = is_none o.answer

-- the first that passes a test
abbrev pub first : (Opened → Bool) → List Opened → Option Opened
first test [] = None
first test (o ∷ rest) = if test o then Some o else first test rest

-- it is open for more than so many cycles
abbrev pub is_longer : List ℕ → ℕ → ℕ → Opened → Bool
is_longer cycles end most o = nat_lt most (open_for cycles end o)

-- the longer wait of two that were answered, the first where they are equal
abbrev pub longer : List ℕ → ℕ → Option Opened → Opened → Option Opened
longer cycles end None o = if is_open o then None else Some o
longer cycles end (Some best) o =
    if not (is_open o) && nat_lt (open_for cycles end best) (open_for cycles end o) then Some o else Some best

-- the longest of these and one before them
abbrev pub longest_from : List ℕ → ℕ → Option Opened → List Opened → Option Opened
longest_from cycles end best [] = best
longest_from cycles end best (o ∷ rest) = longest_from cycles end (longer cycles end best o) rest

-- the longest wait of those that were answered, the first of several
abbrev pub longest_closed : List ℕ → ℕ → List Opened → Option Opened
longest_closed cycles end exchanges = longest_from cycles end None exchanges
