-- A number read from the front of its digits, hexadecimal or decimal.
use Rattle.std.proofs.Common.{◌≡◌, ℕ, true, suc, ◌+◌, ◌-◌, ◌*◌, ◌^◌, ◌<◌, ◌≤◌, List, [], ◌∷◌, length, take, drop, slice_index, refl, sym, ◌∙◌, ap, subst, arith}
use Rattle.std.proofs.Math.Nat.{pow-le-pow_right, pow-succ'}
use Rattle.std.proofs.Math.Pow.{pow_mono}
use Rattle.std.proofs.lemmas.Nat.{pow_pos}
use Rattle.std.proofs.Math.Seq.{take-length}
use Rattle.std.specs.Char.{digit_value, is_ascii_digit}
use Rattle.std.specs.List.{list_all}
use Rattle.std.specs.Str.Parse.{digits_value, digits_value_after}
use Rattle.tl_script_words.specs.Words.{is_lower_hex}

-- what is left decides as all digits do, and continues their number, to which no more than 32 bits come
abbrev pub IsReadTo : List ℕ → ℕ → List ℕ → Type 0
IsReadTo digits value rest =
    (list_all is_lower_hex rest ≡ list_all is_lower_hex digits) × (digits_value_after 16 value rest ≡ digits_value 16 digits)
    × (length rest ≤ 8) × (value < 2 ^ (32 - 4 * length rest))

-- a digit has four bits
four_more : (m : ℕ) → 2 ^ suc (suc (suc (suc m))) ≡ 16 * 2 ^ m
four_more m =
    omega (arith, pow-succ' 2 (suc (suc (suc m))), pow-succ' 2 (suc (suc m)), pow-succ' 2 (suc m), pow-succ' 2 m)

-- so one more fits
one_more : (left value digit : ℕ) → left < 8 → value < 2 ^ (32 - 4 * suc left) → digit < 16 → value * 16 + digit < 2 ^ (32 - 4 * left)
one_more left value digit few small low =
    let m = 32 - 4 * suc left in
    let e : 32 - 4 * left ≡ suc (suc (suc (suc m))) = omega arith in
    let all : 2 ^ (32 - 4 * left) ≡ 16 * 2 ^ m = ap (λ k. 2 ^ k) e ∙ four_more m in
    omega (arith, all)

-- at first nothing is read
pub none_read : (digits : List ℕ) → length digits ≤ 8 → IsReadTo digits 0 digits
none_read digits few = (refl, refl, few, pow_pos (32 - 4 * length digits))

-- the first digit of the rest is read
pub first_read : (digits : List ℕ) (value : ℕ) (rest : List ℕ) (digit : ℕ) → 1 ≤ length rest → is_lower_hex (slice_index rest 0) ≡ true
    → digit ≡ digit_value (slice_index rest 0) → digit < 16 → IsReadTo digits value rest
    → IsReadTo digits (value * 16 + digit) (take (length rest - 1) (drop 1 rest))
first_read digits value [] digit some hex is low read = absurd (omega arith)
first_read digits value (c ∷ cs) digit some hex is low read =
    let n : length (c ∷ cs) - 1 ≡ length cs = omega arith in
    let rest : take (length (c ∷ cs) - 1) (drop 1 (c ∷ cs)) ≡ cs = ap (λ k. take k cs) n ∙ take-length cs in
    subst (IsReadTo digits (value * 16 + digit)) (sym rest) (
      rw hex at read.0,
      ap (λ d. digits_value_after 16 (value * 16 + d) cs) is ∙ read.1,
      omega (arith, read.2),
      one_more (length cs) value digit (omega (arith, read.2)) read.3 low,
    )

-- and it fits 32 bits
pub fits : (digits : List ℕ) (value : ℕ) (rest : List ℕ) (digit : ℕ) → 1 ≤ length rest → digit < 16 → IsReadTo digits value rest
    → value * 16 + digit < 2 ^ 32
fits digits value [] digit some low read = absurd (omega arith)
fits digits value (c ∷ cs) digit some low read =
    let n = length cs in
    let next = one_more n value digit (omega (arith, read.2)) read.3 low in
    let most : 2 ^ (32 - 4 * n) ≤ 2 ^ 32 = pow_mono {i = 32 - 4 * n} {j = 32} (omega arith) in
    omega (arith, next, most)

-- ## Decimal digits

-- what is left decides as all digits do, and continues their number, to which no more than nine digits come
abbrev pub IsDecimalTo : List ℕ → ℕ → List ℕ → Type 0
IsDecimalTo digits value rest =
    (list_all is_ascii_digit rest ≡ list_all is_ascii_digit digits) × (digits_value_after 10 value rest ≡ digits_value 10 digits)
    × (length rest ≤ 9) × (value < 10 ^ (9 - length rest))

-- so one more digit fits
one_decimal_more : (left value digit : ℕ) → left < 9 → value < 10 ^ (9 - suc left) → digit < 10 → value * 10 + digit < 10 ^ (9 - left)
one_decimal_more left value digit few small low =
    let m = 9 - suc left in
    let e : 9 - left ≡ suc m = omega arith in
    let all : 10 ^ (9 - left) ≡ 10 ^ suc m = ap (λ k. 10 ^ k) e in
    omega (arith, all, pow-succ' 10 m)

-- at first nothing is read
pub no_decimal : (digits : List ℕ) → length digits ≤ 9 → IsDecimalTo digits 0 digits
no_decimal digits few =
    let some : 10 ^ 0 ≤ 10 ^ (9 - length digits) = pow-le-pow_right {n = 10} (omega arith) {i = 0} {j = 9 - length digits} (omega arith) in
    (refl, refl, few, omega (arith, some))

-- the first digit of the rest is read
pub first_decimal : (digits : List ℕ) (value : ℕ) (rest : List ℕ) (digit : ℕ) → 1 ≤ length rest → is_ascii_digit (slice_index rest 0) ≡ true
    → digit ≡ digit_value (slice_index rest 0) → digit < 10 → IsDecimalTo digits value rest
    → IsDecimalTo digits (value * 10 + digit) (take (length rest - 1) (drop 1 rest))
first_decimal digits value [] digit some decimal is low read = absurd (omega arith)
first_decimal digits value (c ∷ cs) digit some decimal is low read =
    let n : length (c ∷ cs) - 1 ≡ length cs = omega arith in
    let rest : take (length (c ∷ cs) - 1) (drop 1 (c ∷ cs)) ≡ cs = ap (λ k. take k cs) n ∙ take-length cs in
    subst (IsDecimalTo digits (value * 10 + digit)) (sym rest) (
      rw decimal at read.0,
      ap (λ d. digits_value_after 10 (value * 10 + d) cs) is ∙ read.1,
      omega (arith, read.2),
      one_decimal_more (length cs) value digit (omega (arith, read.2)) read.3 low,
    )

-- and it fits 32 bits
pub fits_decimal : (digits : List ℕ) (value : ℕ) (rest : List ℕ) (digit : ℕ) → 1 ≤ length rest → digit < 10 → IsDecimalTo digits value rest
    → value * 10 + digit < 2 ^ 32
fits_decimal digits value [] digit some low read = absurd (omega arith)
fits_decimal digits value (c ∷ cs) digit some low read =
    let n = length cs in
    let next = one_decimal_more n value digit (omega (arith, read.2)) read.3 low in
    let most : 10 ^ (9 - n) ≤ 10 ^ 9 = pow-le-pow_right {n = 10} (omega arith) {i = 9 - n} {j = 9} (omega arith) in
    omega (arith, next, most)
