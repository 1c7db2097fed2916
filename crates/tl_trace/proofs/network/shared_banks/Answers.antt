use Rattle.tl_trace.proofs.Resets.{count-more, fresh-more}
use Rattle.tl_trace.proofs.network.shared_banks.Goals as goal

-- one more bank
pub loop-number-preserved : goal.loop-number-preserved
loop-number-preserved c = record {
  count =
      count-more c.loop-number.shared_banks.items c.push.new.self.items c.in_ok-new.field-0 c.loop-number.number
      c.loop-number.invariant.count c.in_ok-push.ensures.items;
  fresh =
      fresh-more c.args.geometry c.args.image.now c.loop-number.shared_banks.items c.push.new.self.items c.in_ok-new.field-0 c.new.result
      c.loop-number.number c.loop-number.invariant.fresh c.loop-number.invariant.count c.new.ensures c.in_ok-new.ensures
      c.in_ok-push.ensures.items;
}
