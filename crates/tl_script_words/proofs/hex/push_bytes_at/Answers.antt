use Rattle.std.proofs.Common.{◌≡◌, ℕ, ◌+◌, ◌*◌, ◌<◌, ◌++◌, List, [], ◌∷◌, codes, length, take, slice_set, string_bytes, OnOk, sym, ◌∙◌, ap, subst, arith, append_assoc}
use Rattle.std.proofs.lemmas.List.{take_more_set}
use Rattle.std.proofs.lemmas.Str.{IsAscii-append}
use Rattle.std.proofs.lemmas.Str.Ascii.{IsAscii-nil, IsAscii-cons}
use Rattle.std.specs.Int.{w32, to_be_bytes}
use Rattle.std.specs.Str.{IsAscii}
use Rattle.tl_script_words.specs.Hex.{hex_text, address_text}
use Rattle.tl_script_words.proofs.hex.push_bytes_at.Goals as goal

-- what stands there, once both were written
spot : (d1 d2 four bytes : List ℕ) (address : ℕ) → four ≡ to_be_bytes w32 address → take (2 + 2 * length four) d1 ≡ codes "0x" ++ hex_text four
    → 10 < length d1 → take (11 + 2 * length bytes) d2 ≡ take 11 (slice_set d1 10 32) ++ hex_text bytes
    → take (11 + 2 * length bytes) d2 ≡ address_text address ++ (codes " " ++ hex_text bytes)
spot d1 d2 four bytes address is first room last =
    let began : take 10 d1 ≡ address_text address = subst (λ (xs : List ℕ). take (2 + 2 * length xs) d1 ≡ codes "0x" ++ hex_text xs) is first in
    last ∙ ap (λ (xs : List ℕ). xs ++ hex_text bytes) (take_more_set d1 10 32 room ∙ ap (λ (xs : List ℕ). xs ++ codes " ") began)
    ∙ append_assoc (address_text address) (codes " ") (hex_text bytes)

-- it is ASCII
spot_ascii : (four bytes : List ℕ) (address : ℕ) → four ≡ to_be_bytes w32 address → IsAscii (hex_text four) → IsAscii (hex_text bytes)
    → IsAscii (address_text address ++ (codes " " ++ hex_text bytes))
spot_ascii four bytes address is one two =
    IsAscii-append (address_text address) (codes " " ++ hex_text bytes)
    (IsAscii-append (codes "0x") (hex_text (to_be_bytes w32 address)) (IsAscii-cons 48 (120 ∷ []) (omega arith) (IsAscii-cons 120 [] (omega arith) IsAscii-nil))
    (subst (λ (xs : List ℕ). IsAscii (hex_text xs)) is one))
    (IsAscii-append (codes " ") (hex_text bytes) (IsAscii-cons 32 [] (omega arith) IsAscii-nil) two)

pub push_ascii-requires : goal.push_ascii-requires
push_ascii-requires c =
    let four = c.to_be_bytes.result in
    let bytes = c.args.bytes.now in
    let is = spot c.write_hex.new.digits c.write_hex-2.new.digits four bytes c.args.address c.to_be_bytes.ensures c.write_hex.ensures.written (omega (arith, c.write_hex.ensures.room)) c.write_hex-2.ensures.written in
    subst IsAscii (sym is) (spot_ascii four bytes c.args.address c.to_be_bytes.ensures c.write_hex.ensures.ascii c.write_hex-2.ensures.ascii)

pub returns : goal.returns
returns c =
    let is = spot c.write_hex.new.digits c.write_hex-2.new.digits c.to_be_bytes.result c.args.bytes.now c.args.address c.to_be_bytes.ensures c.write_hex.ensures.written (omega (arith, c.write_hex.ensures.room)) c.write_hex-2.ensures.written in
    let old = string_bytes c.args.text.now in
    let place = address_text c.args.address in
    let bytes = hex_text c.args.bytes.now in
    subst (λ (xs : List ℕ). OnOk c.push_ascii.result (string_bytes c.push_ascii.new.text ≡ xs))
    (sym (append_assoc (old ++ place) (codes " ") bytes ∙ append_assoc old place (codes " " ++ bytes)))
    (subst (λ (xs : List ℕ). OnOk c.push_ascii.result (string_bytes c.push_ascii.new.text ≡ old ++ xs)) is c.push_ascii.ensures)
