-- Laws of powers of two and their exponents.
use Rattle.std.proofs.Common.{◌≡◌, ℕ, ◌*◌, ◌-◌, ◌%◌, ◌^◌, ◌<◌, ◌≤◌, suc, refl, inl, inr, arith}
use Rattle.std.specs.Prelude.{bit_and}
use Rattle.std.proofs.lemmas.Nat.{pow_pos, and_mask}
use Rattle.std.proofs.Math.Nat.{pow-suc}
use Rattle.std.proofs.Math.Pow.{pow_mono}
use Rattle.std.proofs.lemmas.Bool.{cases_order}
use Rattle.tl_map.specs.Limits.{IsPowerBetween}

-- a logarithm of a power is its exponent
pub exponent : (k r n : ℕ) → n ≡ 2 ^ k → 2 ^ r ≤ n → n < 2 * 2 ^ r → 2 ^ r ≡ n
exponent k r n power below above =
    elim (cases_order r k) [
      | inl same ↦ rw (same, power) refl
      | inr (inl less) ↦
          let more : 2 ^ suc r ≤ 2 ^ k = pow_mono (omega arith) in
          absurd (omega (arith, more, pow-suc 2 r))
      | inr (inr less) ↦
          let more : 2 ^ suc k ≤ 2 ^ r = pow_mono (omega arith) in
          absurd (omega (arith, more, pow-suc 2 k, pow_pos k))
    ]

-- the exponent of a power below another is below its exponent
pub exponent_lt : (r m : ℕ) → 2 ^ r < 2 ^ m → r < m
exponent_lt r m below =
    elim (cases_order r m) [
      | inl same ↦
          let equal : 2 ^ r ≡ 2 ^ m = rw same refl in
          absurd (omega (arith, equal))
      | inr (inl less) ↦ less
      | inr (inr more) ↦
          let above : 2 ^ m ≤ 2 ^ r = pow_mono (omega (arith, more)) in
          absurd (omega (arith, above))
    ]

-- a mask of the bits below a power is the remainder by it
pub masked : (low high n x : ℕ) → IsPowerBetween low high n → bit_and x (n - 1) ≡ x % n
masked low high n x power = rw power.power (and_mask x power.exponent)
