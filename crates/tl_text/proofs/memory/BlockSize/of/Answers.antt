use Rattle.std.proofs.Common.{◌≡◌, ◌≢◌, ℕ, zero, suc, ◌^◌, ◌≤◌, arith}
use Rattle.std.proofs.lemmas.Nat.{pow_pos}
use Rattle.tl_text.proofs.memory.BlockSize.of.Goals as goal

-- the last power of two from 8 to 64 is 64
last : (k n : ℕ) → n ≡ 2 ^ k → 8 ≤ n → n ≤ 64 → n ≢ 8 → n ≢ 16 → n ≢ 32 → 64 ≡ n
last zero n power least most a b c = omega arith
last (suc zero) n power least most a b c = omega arith
last (suc (suc zero)) n power least most a b c = omega arith
last (suc (suc (suc zero))) n power least most a b c = omega arith
last (suc (suc (suc (suc zero)))) n power least most a b c = omega arith
last (suc (suc (suc (suc (suc zero))))) n power least most a b c = omega arith
last (suc (suc (suc (suc (suc (suc zero)))))) n power least most a b c = omega arith
last (suc (suc (suc (suc (suc (suc (suc k))))))) n power least most a b c = omega (arith, pow_pos k)

pub returns-in_default : goal.returns-in_default
returns-in_default c =
    let power = c.block_bytes.ensures.lawful.block_bytes in
    let bytes = c.block_bytes.ensures.is in
    grind (arith, bytes, last power.exponent c.args.geometry.block_bytes power.power power.least power.most)
