use Rattle.std.proofs.Common.{get_or, refl, true}
use Rattle.tl_types.specs.declared.permission.Grow.TheVariants.{NtoB}
use Rattle.tlcheck_record.specs.State.{on_a}
use Rattle.tlcheck_record.proofs.OneMore.{one_more_is_written}
use Rattle.tlcheck_record.proofs.client.OnADisplay.fmt.Goals as goal

-- one more Acquire is written
pub loop-grow-preserved : goal.loop-grow-preserved
loop-grow-preserved g = λ c plain.
    let before = c.loop-grow.invariant plain in
    let item = get_or c.args.self.now.0.now c.loop-grow.grow-index NtoB in
    one_more_is_written g.W.Write.write_str_gives on_a c.args.self.now.0.now c.loop-grow.grow-index item NtoB _ _ _ _
    c.loop-grow-test.true (refl {a = item}) (refl {a = on_a item}) before ((c.in_ok-write.ensures {u = tt}).writes before.plain (refl {a = true}))
