use Rattle.std.proofs.Common.{◌≤◌, ◌+◌, ap, subst, ◌∙◌}
use Rattle.tl_tickets.specs.Inbox.{PassView, after_take}
use Rattle.tl_tickets.specs.Delivery.{pass_with}
use Rattle.tl_tickets.specs.contracts.inbox.Pass.{the_view as pass_view}
use Rattle.tl_tickets.proofs.Keeps.{receiver_known, receiver_pops, learns}
use Rattle.tl_tickets.proofs.inbox.Inbox.take.Goals as goal

pub pop_as-requires-clause-rule : goal.pop_as-requires-clause-rule
pop_as-requires-clause-rule g c = (receiver_pops _ (pass_view c.pass.inside) _ c.pass.invariant.1 (ap (λ (p : PassView). p.number) c.pass.view_is ∙ c.requires.1), learns _ _)

pub returns-clause-taken : goal.returns-clause-taken
returns-clause-taken g c =
    let h = c.in_ok-sent.ensures in
    let pass = c.pass.inside in
    let x = c.in_ok-sent.sent in
    let rest = h.rule.0 in
    let zero_number = ap (λ (p : PassView). p.number) c.pass.view_is ∙ c.requires.1 in
    let made = ap (λ v. v.given) (receiver_known (pass_view c.pass.inside) _ c.pass.invariant.1 zero_number) ∙ ap (λ (p : PassView). p.senders) c.pass.view_is ∙ c.requires.0.1 in
    let behind = ap (λ v. v.behind) (receiver_known (pass_view c.pass.inside) _ c.pass.invariant.1 zero_number) ∙ ap (λ (p : PassView). p.behind) c.pass.view_is in (
      x.sender,
      rest,
      h.rule.1,
      subst (λ n. x.sender ≤ n) made h.rule.2,
      subst (λ n. n ≤ rest + 1) behind h.rule.3,
      ◌∙◌ {b = after_take (pass_view pass) x.sender x.ticket rest} (λ i. pass_with (h.queue.0 i) pass.senders pass.number (h.rule.4 i)) (ap (λ p. after_take p x.sender x.ticket rest) c.pass.view_is),
    )
