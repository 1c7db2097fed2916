use Rattle.std.proofs.Common.{refl, arith}
use Rattle.std.proofs.lemmas.Bool.{false≢true, iff_false}
use Rattle.tl_rules.proofs.Loop.{lawful_more, lawful_all, lawful_each}
use Rattle.tl_rules.proofs.merge.are_lawful.Goals as goal

pub returns-then-not-is_lawful : goal.returns-then-not-is_lawful
returns-then-not-is_lawful c = (
  λ f. absurd (false≢true f),
  λ all. absurd (iff_false c.is_lawful.ensures c.if-not-is_lawful.true
      (lawful_each c.args.logs.now c.loop-log.log-index c.log-item.result (omega arith) c.log-item.is all)),
)

pub loop-log-preserved : goal.loop-log-preserved
loop-log-preserved c =
    lawful_more c.args.logs.now c.loop-log.log-index c.log-item.result (omega arith) c.log-item.is c.loop-log.invariant
    (c.is_lawful.ensures.0 c.if-not-is_lawful.false)

pub returns : goal.returns
returns c = (λ _. lawful_all c.args.logs.now c.loop-log.log-index (omega arith) c.loop-log.invariant, λ _. refl)
