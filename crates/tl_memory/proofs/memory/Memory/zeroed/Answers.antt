use Rattle.std.proofs.Common.{vec_capacity, ◌≡◌, ◌*◌, ◌==◌, List, [], ℕ, Some, true, eq-eqb, refl, ap, ◌∙◌, arith}
use Rattle.tl_types.specs.Bytes.{image_bytes}
use Rattle.tl_map.specs.Places.{bank_of, slot_of}
use Rattle.tl_map.proofs.PlaceLaws.{slot_of-lt}
use Rattle.tl_memory.proofs.BlockLaws.{block_in-laid, image_bytes-past}
use Rattle.tl_memory.proofs.memory.Memory.zeroed.Goals as goal

pub returns-clause-blocks : goal.returns-clause-blocks
returns-clause-blocks c = λ b inside own.
    let n = c.args.geometry.block_bytes in
    let from = slot_of c.args.geometry b * n in
    let kept : (bank_of c.args.geometry b == c.args.bank) ≡ true = eq-eqb (bank_of c.args.geometry b) c.args.bank own in
    block_in-laid _ c.args.geometry (Some c.args.bank) (vec_capacity c.in_ok-bytes.bytes) c.in_ok-bytes.bytes.items refl
    (omega (arith, c.in_ok-bytes.ensures.len)) (c.in_ok-bytes.ensures.exact ∙ rw (c.slots.ensures, c.block_bytes.ensures.is) refl) b
    (slot_of-lt c.args.geometry b c.block_bytes.ensures.lawful inside) kept
    ∙ ap (λ (xs : List ℕ). image_bytes xs from n) c.in_ok-bytes.ensures.items ∙ image_bytes-past [] from n (omega arith)
