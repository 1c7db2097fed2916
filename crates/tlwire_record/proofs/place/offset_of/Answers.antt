use Rattle.std.proofs.Common.{◌-◌, ◌/◌, ◌<◌, arith}
use Rattle.tlwire_record.proofs.Offsets.{fits}
use Rattle.tlwire_record.proofs.place.offset_of.Goals as goal

pub overflow_cast-near : goal.overflow_cast-near
overflow_cast-near c =
    let inside : (c.args.address - c.args.base) / c.args.shape.block_bytes < c.args.shape.blocks = omega arith in
    let near =
    fits (c.args.address - c.args.base) c.args.shape.block_bytes c.args.shape.blocks (omega arith) (omega arith)
    inside (omega arith)
    in
    omega (arith, near)
