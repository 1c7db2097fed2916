use Rattle.std.proofs.Common.{rules}
use Rattle.tl_rules.proofs.Over.{over_more}
use Rattle.tl_rules.proofs.plain.states_over.Goals as goal

-- one more block is at reset
pub loop-i-preserved : goal.loop-i-preserved
loop-i-preserved c =
    over_more c.args.shape c.args.image.now _ _ c.loop-i.i c.loop-i.states.items c.push-in-loop-i.new.self.items c.in_ok-own.own c.loop-i.invariant
    c.in_ok-push-2.ensures.items c.from_image-zeros.ensures c.from_image-memory.ensures c.in_ok-own.ensures

-- nothing is asked for where there are no blocks
pub returns-then-shape-eq0-clause-no_blocks : goal.returns-then-shape-eq0-clause-no_blocks
returns-then-shape-eq0-clause-no_blocks c = search rules
