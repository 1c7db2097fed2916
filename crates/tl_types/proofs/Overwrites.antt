-- Bytes written over those of a block.
use Rattle.std.proofs.Common.{◌≡◌, ℕ, ◌+◌, ◌≤◌, min, max, List, length, take, arith}
use Rattle.std.proofs.lemmas.List.{places, same_lists}
use borrow.Rule.Slice.PartMut.{put_mid}
use Rattle.tl_types.specs.Bytes.{overwrite}

-- the first bytes of an array, after others are written over some of them or behind them
pub overwritten : (bytes access : List ℕ) (len offset from size after : ℕ) → len ≤ length bytes → from ≡ min offset len
    → size ≡ length access → from + size ≤ length bytes → after ≡ max len (from + size)
    → take after (put_mid from size bytes access) ≡ overwrite offset access (take len bytes)
overwritten bytes access len offset from size after fits begins is inside ends =
    same_lists _ _ (grind (arith, places)) (λ k d h. grind (arith, places))
