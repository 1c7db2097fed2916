use Rattle.std.proofs.Common.{ap, ◌∙◌, arith}
use Rattle.tl_rules.specs.Certified.{events_of}
use Rattle.tl_rules.proofs.Loop.{pushed}
use Rattle.tl_rules.proofs.merge.certify.Goals as goal

pub loop-log-preserved : goal.loop-log-preserved
loop-log-preserved c = (
  ap events_of c.push.ensures.items
      ∙ pushed c.args.logs.now c.loop-log.log-index c.log-item.result c.loop-log.events.items c.events.result (omega arith) c.log-item.is c.loop-log.invariant.0 c.events.ensures,
  omega (arith, c.push.ensures.len),
)
