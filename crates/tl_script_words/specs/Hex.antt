-- How bytes and addresses print (this project's own format).
use Rattle.std.specs.Prelude.{ℕ, ◌/◌, ◌%◌, false, List, [], ◌∷◌, ◌++◌, Option, Some, None, codes}
use Rattle.std.specs.Fmt.{digit_glyph}
use Rattle.std.specs.Int.{w32, to_be_bytes}
use Rattle.std.specs.List.{flat_map}

-- two lower-case digits for a byte
abbrev pub pair : ℕ → List ℕ
pair b = digit_glyph false (b / 16) ∷ digit_glyph false (b % 16) ∷ []

-- a pair for each byte
abbrev pub hex_text : List ℕ → List ℕ
hex_text bytes = flat_map pair bytes

-- the bytes that a message carries, with a space before them, or nothing
abbrev pub carried_text : Option (List ℕ) → List ℕ
carried_text (Some bytes) = codes " " ++ hex_text bytes
carried_text None = []

-- `0x` and eight digits, the highest first
abbrev pub address_text : ℕ → List ℕ
address_text address = codes "0x" ++ hex_text (to_be_bytes w32 address)
