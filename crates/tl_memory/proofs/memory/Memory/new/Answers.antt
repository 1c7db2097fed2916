use Rattle.std.proofs.Common.{◌≡◌, ◌*◌, List, ℕ, None, length, refl, ap, ◌∙◌, vec_capacity, arith}
use Rattle.std.specs.Vec.{with_items}
use Rattle.std.proofs.lemmas.List.{with_items_is}
use Rattle.tl_types.specs.Bytes.{image_bytes}
use Rattle.tl_memory.proofs.BlockLaws.{block_in-laid}
use Rattle.tl_memory.proofs.memory.Memory.new.Goals as goal

pub returns-clause-blocks : goal.returns-clause-blocks
returns-clause-blocks c = λ b inside.
    let n = c.args.geometry.block_bytes in
    let laid = c.lay_down.new.bytes in
    let image : (with_items laid c.copy_from_slice.new.self).items ≡ c.args.image.now =
    with_items_is laid c.copy_from_slice.new.self (c.copy_from_slice.ensures.len ∙ c.as_mut_slice.ensures.len) ∙ c.copy_from_slice.ensures.after in
    let size = ap (λ (xs : List ℕ). length xs) image in
    let room : vec_capacity laid ≡ c.args.geometry.memory_blocks * n =
    c.lay_down.ensures.room ∙ c.in_ok-bytes.ensures.exact ∙ c.memory_bytes-len.ensures.is in
    block_in-laid _ c.args.geometry None (vec_capacity laid) (with_items laid c.copy_from_slice.new.self).items refl
    (omega (arith, size, room, c.requires)) room b inside refl
    ∙ ap (λ (xs : List ℕ). image_bytes xs (b * n) n) image
