-- The parts of a text, which stand apart by one byte each (this project's own format).
use Rattle.std.specs.Prelude.{ℕ, ◌==◌, List, [], Option, Some, None}
use Rattle.std.specs.Borrow.{Bor}
use Rattle.std.specs.List.{slice_split}

-- what stands between these bytes: two in a row have an empty part between them
abbrev pub parts_of : ℕ → List ℕ → List (List ℕ)
parts_of mark text = slice_split (λ b. b == mark) text

-- the parts of a text that may be absent
abbrev pub parts_in : ℕ → Option (Bor (List ℕ)) → List (List ℕ)
parts_in mark None = []
parts_in mark (Some text) = parts_of mark text.now
