use Rattle.std.proofs.Common.{◌-◌, arith}
use Rattle.tl_types.specs.declared.limits.TheConstants.{BLOCK_BYTES}
use Rattle.tl_types.proofs.Image.{part_of_image}
use Rattle.tl_types.proofs.bytes.BlockBytes.from_image.Goals as goal

pub returns : goal.returns
returns c =
    rw (c.copy_from_slice.ensures.after)
    (part_of_image c.args.image.now c.args.from c.args.len BLOCK_BYTES c.min-from.result (c.min-to.result - c.min-from.result)
    c.min-from.ensures (omega arith) c.requires.len)
