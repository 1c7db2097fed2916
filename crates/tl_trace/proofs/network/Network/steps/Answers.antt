use Rattle.tl_trace.proofs.Chain.{performs-more}
use Rattle.tl_trace.proofs.network.Network.steps.Goals as goal

-- one more step was played
pub loop-index-preserved : goal.loop-index-preserved
loop-index-preserved c =
    performs-more c.args.steps.now c.loop-index.index c.index-steps-index.result c.args.self.now c.loop-index.self c.step.new.self
    c.loop-index.answers.items c.push.new.self.items c.in_ok-step.field-0 c.loop-index-test.true c.index-steps-index.is
    c.loop-index.invariant c.in_ok-step.ensures.answer c.in_ok-push.ensures.items
