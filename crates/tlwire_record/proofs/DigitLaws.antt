-- An address read from the front of its digits.
use Rattle.std.proofs.Common.{◌≡◌, ℕ, true, suc, ◌+◌, ◌-◌, ◌*◌, ◌^◌, ◌<◌, ◌≤◌, List, [], ◌∷◌, length, take, drop, slice_index, refl, sym, ◌∙◌, ap, subst, arith}
use Rattle.std.proofs.Math.Nat.{pow-succ'}
use Rattle.std.proofs.Math.Pow.{pow_mono}
use Rattle.std.proofs.lemmas.Nat.{pow_pos}
use Rattle.std.proofs.Math.Seq.{take-length}
use Rattle.std.specs.Char.{digit_value}
use Rattle.std.specs.List.{list_all}
use Rattle.std.specs.Str.Parse.{digits_value, digits_value_after}
use Rattle.tl_script_words.specs.Words.{is_lower_hex}

-- what is left decides as all digits do, and continues their number, to which no more than 64 bits come
abbrev pub IsReadTo : List ℕ → ℕ → List ℕ → Type 0
IsReadTo digits value rest =
    (list_all is_lower_hex rest ≡ list_all is_lower_hex digits) × (digits_value_after 16 value rest ≡ digits_value 16 digits)
    × (length rest ≤ 16) × (value < 2 ^ (64 - 4 * length rest))

-- a digit has four bits
four_more : (m : ℕ) → 2 ^ suc (suc (suc (suc m))) ≡ 16 * 2 ^ m
four_more m =
    omega (arith, pow-succ' 2 (suc (suc (suc m))), pow-succ' 2 (suc (suc m)), pow-succ' 2 (suc m), pow-succ' 2 m)

-- so one more fits
one_more : (left value digit : ℕ) → left < 16 → value < 2 ^ (64 - 4 * suc left) → digit < 16 → value * 16 + digit < 2 ^ (64 - 4 * left)
one_more left value digit few small low =
    let m = 64 - 4 * suc left in
    let e : 64 - 4 * left ≡ suc (suc (suc (suc m))) = omega arith in
    let all : 2 ^ (64 - 4 * left) ≡ 16 * 2 ^ m = ap (λ k. 2 ^ k) e ∙ four_more m in
    omega (arith, all)

-- at first nothing is read
pub none_read : (digits : List ℕ) → length digits ≤ 16 → IsReadTo digits 0 digits
none_read digits few = (refl, refl, few, pow_pos (64 - 4 * length digits))

-- the first digit of the rest is read
pub first_read : (digits : List ℕ) (value : ℕ) (rest : List ℕ) (digit : ℕ) → 1 ≤ length rest → is_lower_hex (slice_index rest 0) ≡ true
    → digit ≡ digit_value (slice_index rest 0) → digit < 16 → IsReadTo digits value rest
    → IsReadTo digits (value * 16 + digit) (take (length rest - 1) (drop 1 rest))
first_read digits value [] digit some hex is low read = absurd (omega arith)
first_read digits value (c ∷ cs) digit some hex is low read =
    let n : length (c ∷ cs) - 1 ≡ length cs = omega arith in
    let rest : take (length (c ∷ cs) - 1) (drop 1 (c ∷ cs)) ≡ cs = ap (λ k. take k cs) n ∙ take-length cs in
    subst (IsReadTo digits (value * 16 + digit)) (sym rest) (
      rw hex at read.0,
      ap (λ d. digits_value_after 16 (value * 16 + d) cs) is ∙ read.1,
      omega (arith, read.2),
      one_more (length cs) value digit (omega (arith, read.2)) read.3 low,
    )

-- and it fits 64 bits
pub fits : (digits : List ℕ) (value : ℕ) (rest : List ℕ) (digit : ℕ) → 1 ≤ length rest → digit < 16 → IsReadTo digits value rest
    → value * 16 + digit < 2 ^ 64
fits digits value [] digit some low read = absurd (omega arith)
fits digits value (c ∷ cs) digit some low read =
    let n = length cs in
    let next = one_more n value digit (omega (arith, read.2)) read.3 low in
    let most : 2 ^ (64 - 4 * n) ≤ 2 ^ 64 = pow_mono {i = 64 - 4 * n} {j = 64} (omega arith) in
    omega (arith, next, most)
