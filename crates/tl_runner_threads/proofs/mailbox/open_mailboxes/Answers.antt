use Rattle.std.proofs.Common.{◌≡◌, [], ◌∷◌, arith}
use Rattle.std.proofs.lemmas.List.Elements.{All-append, All-cons}
use Rattle.tl_runner_threads.specs.declared.mailbox.Mailbox.{Mailbox}
use Rattle.tl_runner_threads.proofs.Deals.{fit_more}
use Rattle.tl_runner_threads.proofs.mailbox.open_mailboxes.Goals as goal

pub loop-preserved : goal.loop-preserved
loop-preserved c = (
  rw (c.in_ok-push.ensures.items, c.in_ok-push-2.ensures.items) (fit_more c.args.senders c.loop.mailboxes.items c.loop.rows.items c.in_ok-mailbox.mailbox c.in_ok-mailbox.keys c.loop.invariant.0 c.in_ok-mailbox.ensures.fits),
  omega (arith, c.in_ok-push-2.ensures.len, c.loop.invariant.1),
  rw (c.in_ok-push.ensures.items)
      (All-append (λ (m : Mailbox). m.inbox.capacity ≡ c.args.capacity) c.loop.mailboxes.items (c.in_ok-mailbox.mailbox ∷ []) c.loop.invariant.2
      (All-cons (λ (m : Mailbox). m.inbox.capacity ≡ c.args.capacity) c.in_ok-mailbox.mailbox [] c.in_ok-mailbox.ensures.room (λ k d h. absurd (omega arith)))),
)
