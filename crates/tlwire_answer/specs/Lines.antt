-- The lines of a record by their numbers, from 1 on.
use Rattle.std.specs.Prelude.{ℕ, ◌-◌, ◌==◌, List, [], slice_get, Option, Some, None, if◌then◌else◌}
use Rattle.std.specs.Borrow.{Bor}

-- a number that may be absent
abbrev pub number_or_zero : Option ℕ → ℕ
number_or_zero None = 0
number_or_zero (Some n) = n

-- the number of the line of a thing seen
abbrev pub number_at : List ℕ → ℕ → ℕ
number_at numbers place = number_or_zero (slice_get numbers place)

-- a line that may be absent
abbrev pub line_or_none : Option (List ℕ) → List ℕ
line_or_none None = []
line_or_none (Some line) = line

-- that of a reference to it
abbrev pub lent_line : Option (Bor (List ℕ)) → List ℕ
lent_line None = []
lent_line (Some line) = line.now

-- the line with a number, from 1 on
abbrev pub text_at : List (List ℕ) → ℕ → List ℕ
text_at lines number = if number == 0 then [] else line_or_none (slice_get lines (number - 1))
