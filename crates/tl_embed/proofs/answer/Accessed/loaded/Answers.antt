use Rattle.std.proofs.Common.{◌≤◌, ℕ, List, length, subst, sym}
use Rattle.tl_embed.proofs.Widths.{padded-wide}
use Rattle.tl_embed.proofs.answer.Accessed.loaded.Goals as goal

-- past the bytes there are zeros
pub returns : goal.returns
returns c =
    let few : length c.as_slice-bytes.result.now ≤ 8 =
    subst (λ (xs : List ℕ). length xs ≤ 8) (sym c.as_slice-bytes.ensures.value) c.as_slice-bytes.ensures.fits in
    cc (c.padded.ensures, padded-wide c.as_slice-bytes.result.now few, c.as_slice-bytes.ensures.value)
