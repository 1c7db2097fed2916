use Rattle.std.proofs.Common.{get_or, refl, true}
use Rattle.tl_types.specs.declared.permission.ProbeCap.TheVariants.{ToB}
use Rattle.tlcheck_record.specs.State.{on_b}
use Rattle.tlcheck_record.proofs.OneMore.{one_more_is_written}
use Rattle.tlcheck_record.proofs.client.OnBDisplay.fmt.Goals as goal

-- one more Probe is written
pub loop-cap-preserved : goal.loop-cap-preserved
loop-cap-preserved g = λ c plain.
    let before = c.loop-cap.invariant plain in
    let item = get_or c.args.self.now.0.now c.loop-cap.cap-index ToB in
    one_more_is_written g.W.Write.write_str_gives on_b c.args.self.now.0.now c.loop-cap.cap-index item ToB _ _ _ _
    c.loop-cap-test.true (refl {a = item}) (refl {a = on_b item}) before ((c.in_ok-write.ensures {u = tt}).writes before.plain (refl {a = true}))
