use Rattle.std.proofs.Common.{◌∙◌, arith}
use Rattle.tlwire_record.proofs.Lines.{goes_on, stops}
use Rattle.tlwire_record.proofs.record.take_lines.Goals as goal

pub returns-in-Err-Wrong : goal.returns-in-Err-Wrong
returns-in-Err-Wrong c =
    c.loop-line.invariant.leads
    ∙ stops c.args.lines.now c.loop-line.line-index c.loop-line.number _ c.loop-line.stage c.in-Err-Wrong.field-0 c.in-Err-Wrong.cause _
    c.loop-line.invariant.counted c.loop-line-test.true c.in-Err-Wrong.field-0-is c.in-Err-Wrong.cause-is (c.in-Err-Wrong.ensures {u = tt})

pub loop-line-preserved : goal.loop-line-preserved
loop-line-preserved c = record {
  counted = omega (arith, c.loop-line.invariant.counted);
  leads =
      c.loop-line.invariant.leads
      ∙ goes_on c.args.lines.now c.loop-line.line-index c.loop-line.number _ c.loop-line.stage c.take_line.new.stage c.loop-line.invariant.counted
      c.loop-line-test.true (c.in-Ok.ensures {u = tt});
}
