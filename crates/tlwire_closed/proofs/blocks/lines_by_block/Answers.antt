use Rattle.std.proofs.Common.{◌<◌, ℕ, length, arith, ap, ◌∙◌}
use Rattle.tlwire_search.specs.declared.seen.Wire.{Wire}
use Rattle.tlwire_closed.specs.declared.blocks.LineOn.{LineOn}
use Rattle.tlwire_closed.proofs.Groups.{line_joins}
use Rattle.tlwire_closed.proofs.blocks.lines_by_block.Goals as goal

kept : ℕ → Wire → LineOn
kept place wire = record { place = place; wire = wire }

pub loop-place-preserved : goal.loop-place-preserved
unfolding kept
loop-place-preserved c =
    let lt : c.loop-place.place < length c.args.seen.now = omega arith in
    record {
      lines = λ block.
          line_joins c.args.shape c.args.seen.now c.loop-place.place c.index-seen-place.result c.loop-place.groups.items c.join_line.new.groups.items
          c.block_of-block.result (kept c.loop-place.place c.wire-wire.result) block lt c.index-seen-place.is c.block_of-block.ensures
          (ap (λ (w : Wire). kept c.loop-place.place w) c.wire-wire.ensures) (c.in_ok-join_line.ensures.joins block) (c.loop-place.invariant.lines block);
      size = c.join_line.ensures.size ∙ c.loop-place.invariant.size;
    }
