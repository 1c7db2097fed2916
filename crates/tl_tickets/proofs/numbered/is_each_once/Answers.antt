use Rattle.std.proofs.Common.{◌≡◌, ◌==◌, length, true≢false, count_by, sym, ◌∙◌, eq-eqb, eqb-true, below_more, arith}
use Rattle.tl_tickets.proofs.numbered.is_each_once.Goals as goal

pub returns-then-count_of-ne1 : goal.returns-then-count_of-ne1
returns-then-count_of-ne1 g c = ((λ h. absurd (true≢false (sym h))), λ each. absurd (c.if-count_of-ne1.true (c.count_of.ensures ∙ each.1 c.loop-number.number (omega arith))))

pub loop-number-preserved : goal.loop-number-preserved
loop-number-preserved g c = below_more (λ k. count_by (λ x. g.N.Numbered.number_of x == k) c.args.list.now ≡ 1) c.loop-number.number c.loop-number.invariant (sym c.count_of.ensures ∙ c.if-count_of-ne1.false)

pub returns : goal.returns
returns g c = ((λ h. (eqb-true (length c.args.list.now) c.args.count h, λ k lt. c.loop-number.invariant k (omega arith))), λ each. eq-eqb (length c.args.list.now) c.args.count each.0)
