use Rattle.std.proofs.Common.{◌≡◌, ◌<◌, sym, ◌∙◌, ap, arith}
use Rattle.tl_map.specs.Numbers.{Numbers}
use Rattle.tl_bank_rest.proofs.Bytes.{hidden-bytes, shown-bytes, start-small}
use Rattle.tl_bank_rest.proofs.image.in_memory.Goals as goal

pub returns-in-Some : goal.returns-in-Some
returns-in-Some c = shown-bytes c.args.bank.now c.args.block c.in-Some.bytes (sym c.in-Some.ensures)

pub overflow_mul-start : goal.overflow_mul-start
overflow_mul-start c =
    let blocks = ap (λ (g : Numbers). g.memory_blocks) c.geometry.ensures in
    let lt : c.args.block < c.geometry.result.memory_blocks = omega (arith, blocks, c.requires) in
    let small = start-small c.geometry.result c.args.block c.block_bytes-size.ensures.lawful lt in
    rw (c.number-number.ensures, c.block_bytes-size.ensures.is) (omega (arith, small))

pub returns : goal.returns
returns c =
    let size : c.block_bytes-size.result ≡ c.args.bank.now.geometry.block_bytes =
    c.block_bytes-size.ensures.is ∙ ap (λ (g : Numbers). g.block_bytes) c.geometry.ensures in
    c.from_image.ensures
    ∙ (rw (c.number-number.ensures, size, c.image.ensures)
    (hidden-bytes c.args.bank.now c.args.block (sym c.memory.ensures ∙ c.in_default.is)))
