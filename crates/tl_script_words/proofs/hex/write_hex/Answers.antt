use Rattle.std.proofs.Common.{ℕ, suc, ◌/◌, ◌%◌, ◌<◌, List, [], ◌∷◌, false, slice_index_or, arith}
use Rattle.std.proofs.lemmas.Grind.{common_steps}
use Rattle.std.proofs.lemmas.Str.Ascii.{IsAscii-nil, IsAscii-cons}
use Rattle.std.specs.Str.{IsAscii}
use Rattle.std.specs.Fmt.{digit_glyph}
use Rattle.tl_script_words.specs.Hex.{hex_text}
use Rattle.tl_script_words.proofs.hex.write_hex.Goals as goal

-- a digit is ASCII
glyph : (d : ℕ) → d < 16 → digit_glyph false d < 128
glyph d h = grind (arith, common_steps)

-- so the pairs of bytes are
hex_ascii : (bytes : List ℕ) → ((i : ℕ) → slice_index_or bytes i 0 < 256) → IsAscii (hex_text bytes)
hex_ascii [] h = IsAscii-nil
hex_ascii (b ∷ bs) h =
    let is : b < 256 = h 0 in
    IsAscii-cons (digit_glyph false (b / 16)) (digit_glyph false (b % 16) ∷ hex_text bs) (glyph (b / 16) (omega arith))
    (IsAscii-cons (digit_glyph false (b % 16)) (hex_text bs) (glyph (b % 16) (omega arith)) (hex_ascii bs (λ i. h (suc i))))

pub returns-clause-ascii : goal.returns-clause-ascii
returns-clause-ascii c = hex_ascii c.args.bytes.now (λ i. omega (arith, c.type_inv.bytes i))
