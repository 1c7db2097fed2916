use Rattle.std.proofs.Common.{◌<◌, length, arith, ◌∙◌}
use Rattle.tlwire_closed.proofs.Groups.{event_joins}
use Rattle.tlwire_closed.proofs.blocks.events_by_block.Goals as goal

pub loop-place-preserved : goal.loop-place-preserved
loop-place-preserved c =
    let lt : c.loop-place.place < length c.args.run.now = omega arith in
    record {
      events = λ block.
          event_joins c.args.shape c.args.run.now c.loop-place.place c.index-run-place.result c.copied.result c.loop-place.groups.items
          c.join_event.new.groups.items c.block-block.result block lt c.index-run-place.is c.block-block.ensures c.copied.ensures
          (c.in_ok-join_event.ensures.joins block) (c.loop-place.invariant.events block);
      size = c.join_event.ensures.size ∙ c.loop-place.invariant.size;
    }
