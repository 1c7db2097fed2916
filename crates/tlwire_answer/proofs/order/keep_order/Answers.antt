use Rattle.std.proofs.Common.{ℕ, below_more, rules, subst}
use Rattle.tlwire_answer.specs.Answer.{ClientKeepsOrder, with_lines}
use Rattle.tlwire_answer.proofs.order.keep_order.Goals as goal

pub loop-number-preserved : goal.loop-number-preserved
loop-number-preserved c =
    below_more (λ (n : ℕ). ClientKeepsOrder (with_lines c.args.messages.now c.args.seen.now) c.args.lines.now n) c.loop-number.number c.loop-number.invariant
    (subst (λ (n : ℕ). ClientKeepsOrder (with_lines c.args.messages.now c.args.seen.now) c.args.lines.now n) c.new.ensures (c.in_ok-keeps.ensures (search rules)))
