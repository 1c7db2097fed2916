use Rattle.std.proofs.Common.{◌≡◌, ℕ, List, length, ap, arith}
use Rattle.tl_types.proofs.Overwrites.{overwritten}
use Rattle.tl_types.proofs.bytes.BlockBytes.overwrite.Goals as goal

pub returns : goal.returns
returns c =
    let size : length c.as_slice-access.result.now ≡ length c.args.access.now = ap (λ (xs : List ℕ). length xs) c.as_slice-access.ensures.value in
    rw (← c.self.view_is, c.copy_from_slice.ensures.after, ← c.as_slice-access.ensures.value)
    (overwritten c.self.inside.bytes c.as_slice-access.result.now c.self.inside.len c.args.offset c.min-from.result _ c.max-self-inside.result
    (omega arith) c.min-from.ensures (omega arith) (omega (arith, size)) (omega arith))
