-- The lines of a text (this project's own format).
use Rattle.std.specs.Prelude.{ℕ, ◌==◌, List, [], ◌∷◌, if◌then◌else◌}

-- a byte in front of the first line
abbrev pub onto_first : ℕ → List (List ℕ) → List (List ℕ)
onto_first byte [] = (byte ∷ []) ∷ []
onto_first byte (line ∷ rest) = (byte ∷ line) ∷ rest

-- the lines of a text, each with the line feed that ends it; the last may have none
abbrev pub lines_of : List ℕ → List (List ℕ)
lines_of [] = []
lines_of (byte ∷ rest) = if byte == 10 then (byte ∷ []) ∷ lines_of rest else onto_first byte (lines_of rest)
