use Rattle.std.proofs.Common.{◌<◌, length, arith}
use Rattle.tlwire_exchanges.proofs.Links.{all_more, are_within, left_more}
use Rattle.tlwire_exchanges.proofs.opened.opened_in.Goals as goal

pub join-requires : goal.join-requires
join-requires c = are_within c.loop-place.answers c.loop-place.place c.args.seen.now c.loop-place.invariant.left

pub loop-place-preserved : goal.loop-place-preserved
loop-place-preserved c =
    let lt : c.loop-place.place < length c.args.seen.now = omega arith in
    record {
      all =
          all_more c.loop-place.answers c.args.seen.now c.loop-place.place c.index-seen-place.result
          c.loop-place.all.items c.join.new.all.items lt c.index-seen-place.is c.loop-place.invariant.left
          c.in_ok-join.ensures.all c.loop-place.invariant.all;
      left =
          left_more c.loop-place.answers c.join.new.answers c.args.seen.now c.loop-place.place
          c.index-seen-place.result lt c.index-seen-place.is c.loop-place.invariant.left
          c.in_ok-join.ensures.first c.in_ok-join.ensures.next;
    }
