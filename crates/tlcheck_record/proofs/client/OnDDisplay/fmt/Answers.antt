use Rattle.std.proofs.Common.{codes, refl, true}
use Rattle.tlcheck_record.specs.State.{on_d}
use Rattle.tlcheck_record.proofs.OneMore.{one_more_is_written, same_message}
use Rattle.tlcheck_record.proofs.client.OnDDisplay.fmt.Goals as goal

-- one more message is written
pub loop-message-preserved : goal.loop-message-preserved
loop-message-preserved g = λ c plain.
    let before = c.loop-message.invariant plain in
    one_more_is_written g.W.Write.write_str_gives on_d c.args.self.now.0.now c.loop-message.message-index c.message-item.result c.message-item.result _ _ _ _
    c.loop-message-test.true c.message-item.is (same_message (codes ", on D ") _ _ _ _ c.kind.ensures c.bytes.ensures)
    before ((c.in_ok-write.ensures {u = tt}).writes before.plain (refl {a = true}))
