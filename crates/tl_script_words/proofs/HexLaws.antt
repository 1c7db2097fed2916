-- What is printed as digits is read back.
use Rattle.std.proofs.Common.{◌≡◌, ℕ, suc, ◌+◌, ◌*◌, ◌/◌, ◌%◌, ◌<◌, ◌^◌, true, false, List, [], ◌∷◌, Some, refl, ap, ◌∙◌, inl, inr, arith, All}
use Rattle.std.proofs.lemmas.Bool.{cases_lt, lt-ltb, le-ltb}
use Rattle.std.proofs.lemmas.Bool.Decides.{nat_tests}
use Rattle.std.proofs.lemmas.Nat.{from_be_bytes-to_be_bytes_4}
use Rattle.std.proofs.lemmas.Str.{digit_value-digit_char}
use Rattle.std.specs.Char.{digit_value}
use Rattle.std.specs.Fmt.{digit_glyph}
use Rattle.std.specs.Int.{w32, to_be_bytes, from_be_bytes}
use Rattle.std.specs.List.{list_all}
use Rattle.std.specs.Str.Parse.{digits_value, digits_value_after}
use Rattle.tl_script_words.specs.Hex.{hex_text, address_text}
use Rattle.tl_script_words.specs.Words.{is_lower_hex, byte_of, bytes_of, address_of}

-- a digit is printed in lower case
lower : (d : ℕ) → d < 16 → is_lower_hex (digit_glyph false d) ≡ true
lower d h = elim (cases_lt d 10) [
  | inl lt ↦ rw (lt-ltb d 10 lt) (grind (arith, nat_tests))
  | inr ge ↦ rw (le-ltb d 10 ge) (grind (arith, nat_tests))
]

-- and has its value
value : (d : ℕ) → d < 16 → digit_value (digit_glyph false d) ≡ d
value d h = digit_value-digit_char d (omega arith)

-- two digits of a byte write it
byte_read : (b : ℕ) → b < 256 → byte_of (digit_glyph false (b / 16)) (digit_glyph false (b % 16)) ≡ Some b
byte_read b h =
    let high : b / 16 < 16 = omega arith in
    let low : b % 16 < 16 = omega arith in
    let same : digit_value (digit_glyph false (b / 16)) * 16 + digit_value (digit_glyph false (b % 16)) ≡ b = omega (arith, value (b / 16) high, value (b % 16) low) in
    rw (lower (b / 16) high, lower (b % 16) low) (ap (λ (n : ℕ). Some n) same)

-- each number is a byte
abbrev AreBytes : List ℕ → Type 0
AreBytes [] = Unit {0}
AreBytes (b ∷ bs) = (b < 256) × AreBytes bs

-- numbers that are each below 256 are bytes
each_is : (bytes : List ℕ) → All (λ b. b < 256) bytes → AreBytes bytes
each_is [] h = tt
each_is (b ∷ bs) h = (h 0 b (omega arith), each_is bs (λ k d lt. h (suc k) d (omega arith)))

-- bytes are read back as they were printed
all_read : (bytes : List ℕ) → AreBytes bytes → bytes_of (hex_text bytes) ≡ Some bytes
all_read [] h = refl
all_read (b ∷ bs) h =
    let one = byte_read b h.0 in
    let rest = all_read bs h.1 in
    rw (one, rest) refl

-- bytes are read back as they were printed
pub bytes_read : (bytes : List ℕ) → All (λ b. b < 256) bytes → bytes_of (hex_text bytes) ≡ Some bytes
bytes_read bytes h = all_read bytes (each_is bytes h)

-- bytes are printed in lower case
all_lower : (bytes : List ℕ) → AreBytes bytes → list_all is_lower_hex (hex_text bytes) ≡ true
all_lower [] h = refl
all_lower (b ∷ bs) h =
    let high = lower (b / 16) (omega (arith, h.0)) in
    let low = lower (b % 16) (omega arith) in
    rw (high, low) (all_lower bs h.1)

-- one more byte in a number of bytes
byte_more : (n b : ℕ) → b < 256 → (n * 16 + digit_value (digit_glyph false (b / 16))) * 16 + digit_value (digit_glyph false (b % 16)) ≡ n * 256 + b
byte_more n b h = omega (arith, value (b / 16) (omega arith), value (b % 16) (omega arith))

-- the number that bytes write after those of n, the highest first
abbrev after : ℕ → List ℕ → ℕ
after n [] = n
after n (b ∷ bs) = after (n * 256 + b) bs

-- the digits of bytes write the number that the bytes write
number_read : (n : ℕ) (bytes : List ℕ) → AreBytes bytes → digits_value_after 16 n (hex_text bytes) ≡ after n bytes
number_read n [] h = refl
number_read n (b ∷ bs) h = rw (byte_more n b h.0) (number_read (n * 256 + b) bs h.1)

-- a number below 2^32 is the number of its four bytes
four : (a b c d n : ℕ) → from_be_bytes w32 (a ∷ b ∷ c ∷ d ∷ []) ≡ n → after 0 (a ∷ b ∷ c ∷ d ∷ []) ≡ n
four a b c d n h = omega (arith, h)

-- the four parts of an address are bytes
are_bytes : (address : ℕ) → AreBytes (to_be_bytes w32 address)
are_bytes address = (omega arith, (omega arith, (omega arith, (omega arith, tt))))

-- an address is read back as it was printed
pub address_read : (address : ℕ) → address < 2 ^ 32 → address_of (address_text address) ≡ Some address
address_read address h =
    let low = all_lower (to_be_bytes w32 address) (are_bytes address) in
    let number : digits_value 16 (hex_text (to_be_bytes w32 address)) ≡ address = number_read 0 (to_be_bytes w32 address) (are_bytes address) ∙ four _ _ _ _ address (from_be_bytes-to_be_bytes_4 address h) in
    rw low (ap (λ (n : ℕ). Some n) number)
