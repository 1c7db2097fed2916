-- How far behind the memory's first byte an access may begin.
use Rattle.std.proofs.Common.{ℕ, ◌*◌, ◌/◌, ◌^◌, ◌<◌, ◌≤◌, arith}
use Rattle.std.proofs.lemmas.Nat.{div-add-mod', mod_below, mul-le}
use Rattle.tl_types.specs.declared.limits.TheConstants.{BLOCKS, BLOCK_BYTES}

-- an offset in a memory of at most `BLOCKS` blocks of at most `BLOCK_BYTES` bytes has 32 bits
pub fits : (offset size blocks : ℕ) → 0 < size → size ≤ BLOCK_BYTES → offset / size < blocks → blocks ≤ BLOCKS → offset < 2 ^ 32
fits offset size blocks some small inside few =
    let whole = div-add-mod' offset size in
    let part = mod_below offset size some in
    let product : offset / size * size ≤ BLOCKS * BLOCK_BYTES = mul-le (offset / size) size BLOCKS BLOCK_BYTES (omega arith) small in
    omega (arith, whole, part, product)
