use Rattle.std.proofs.Common.{◌<◌, ◌^◌, ℕ, List, ap, sym, subst, ◌∙◌, true≢false, arith}
use Rattle.tl_tickets.specs.Inbox.{InboxView, PassView, IsEachOnce}
use Rattle.tl_tickets.proofs.Keeps.{learns}
use Rattle.tl_tickets.proofs.Settling.{settles}
use Rattle.tl_tickets.proofs.inbox.Inbox.settle.Goals as goal

pub returns-then-not-is_each_once : goal.returns-then-not-is_each_once
returns-then-not-is_each_once c = λ each.
    let senders = ap (λ (i : InboxView). i.senders) c.self.view_is in
    let here = subst (λ (y : ℕ × List PassView). IsEachOnce y.0 y.1) (λ i. (sym senders i, sym c.deref.ensures.value i)) each in
    absurd (true≢false (sym (c.is_each_once.ensures.1 (here.0, λ k lt. here.1 k (omega arith))) ∙ c.if-not-is_each_once.true))

pub learn_as-requires-clause-rule : goal.learn_as-requires-clause-rule
learn_as-requires-clause-rule c = learns _ _

pub returns : goal.returns
returns c =
    let senders = ap (λ (i : InboxView). i.senders) c.self.view_is in
    let found = c.is_each_once.ensures.0 c.if-not-is_each_once.false in
    let once = subst (λ (y : ℕ × List PassView). IsEachOnce y.0 y.1) (λ i. (senders i, c.deref.ensures.value i)) (found.0, λ k le. found.1 k (omega arith)) in
    let total = c.gather-all.result.1 in
    let small : total < 2 ^ 64 = omega arith in
    (once, settles c.args.self c.args.passes.items _ total c.gather-all.ensures.pass.1 c.requires once c.gather-all.ensures.total small c.learn_as.ensures.rule)
