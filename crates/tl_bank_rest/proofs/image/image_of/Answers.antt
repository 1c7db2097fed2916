use Rattle.std.proofs.Common.{◌++◌, ℕ, List, add-one, ◌∙◌, ap, arith}
use Rattle.tl_map.specs.Numbers.{Numbers}
use Rattle.tl_bank_rest.specs.Image.{bytes_in_memory, memory_below}
use Rattle.tl_bank_rest.proofs.image.image_of.Goals as goal

pub in_memory-block-requires : goal.in_memory-block-requires
in_memory-block-requires c =
    let blocks = ap (λ (g : Numbers). g.memory_blocks) c.geometry-geometry.ensures in
    omega (arith, blocks, c.memory_blocks-number-end.ensures.is, c.loop-number-test.true, c.new.ensures)

pub loop-number-preserved : goal.loop-number-preserved
loop-number-preserved c =
    rw add-one
    (c.in_ok-extend_from_slice.ensures.items
    ∙ (ap (λ (xs : List ℕ). xs ++ c.as_slice.result.now) c.loop-number.invariant
    ∙ ap (λ (ys : List ℕ). memory_below c.args.bank.now c.loop-number.number ++ ys)
    (c.as_slice.ensures.value ∙ (c.in_memory-block.ensures ∙ ap (λ (n : ℕ). bytes_in_memory c.args.bank.now n) c.new.ensures))))
