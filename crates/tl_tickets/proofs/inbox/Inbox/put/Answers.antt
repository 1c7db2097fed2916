use Rattle.std.proofs.Common.{◌<◌, refl, ap, sym, subst, ◌∙◌}
use Rattle.tl_tickets.specs.Inbox.{InboxView, PassView, WasFull}
use Rattle.tl_tickets.specs.Delivery.{pass_with}
use Rattle.tl_tickets.specs.contracts.inbox.Inbox.{the_view as inbox_view}
use Rattle.tl_tickets.specs.contracts.inbox.Pass.{the_view as pass_view}
use Rattle.tl_tickets.proofs.Keeps.{sender_pushes, was_full, learns}
use Rattle.tl_tickets.proofs.inbox.Inbox.put.Goals as goal

pub push_as-requires-clause-rule : goal.push_as-requires-clause-rule
push_as-requires-clause-rule g c =
    (sender_pushes _ _ (pass_view c.pass.inside) _ c.args.ticket c.pass.invariant.1 (subst (λ (p : PassView). 0 < p.number) (sym c.pass.view_is) c.requires.1) c.self.invariant.0, learns _ _)

pub returns-in-Err-clause-put : goal.returns-in-Err-clause-put
returns-in-Err-clause-put g c =
    let h = c.in-Err.ensures in
    let pass = c.pass.inside in (
      ap (λ x. x.ticket) h.rule.0,
      (λ i. pass_with (h.queue.0 i) pass.senders pass.number (h.rule.1 i)) ∙ c.pass.view_is,
      subst (λ (y : InboxView × PassView). WasFull y.0 y.1) (λ i. (c.self.view_is i, c.pass.view_is i))
          (was_full _ (inbox_view c.self.inside) (pass_view c.pass.inside) _ c.pass.invariant.1 (subst (λ (p : PassView). 0 < p.number) (sym c.pass.view_is) c.requires.1) (ap (λ (p : PassView). p.senders) c.pass.view_is ∙ c.requires.0.1 ∙ sym (ap (λ (i : InboxView). i.senders) c.self.view_is)) refl h.rule.2),
    )
