use Rattle.std.proofs.Common.{◌<◌, length, arith, ◌∙◌}
use Rattle.tlwire_pins.proofs.Grouped.{joins}
use Rattle.tlwire_pins.proofs.order.by_block.Goals as goal

pub loop-place-preserved : goal.loop-place-preserved
loop-place-preserved c =
    let lt : c.loop-place.place < length c.args.lines.now = omega arith in
    record {
      lines = λ block.
          joins c.args.shape c.args.lines.now c.loop-place.place c.index-lines-place.result c.loop-place.groups.items c.join.new.groups.items
          c.block_of-block.result block lt c.index-lines-place.is c.block_of-block.ensures (c.in_ok-join.ensures.joins block)
          (c.loop-place.invariant.lines block);
      size = c.join.ensures.size ∙ c.loop-place.invariant.size;
    }
