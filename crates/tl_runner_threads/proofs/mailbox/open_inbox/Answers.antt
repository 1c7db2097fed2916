use Rattle.std.proofs.Common.{◌≡◌, ◌+◌, List, ap, sym, subst, ◌∙◌, length, arith}
use Rattle.std.specs.List.{All, remove}
use Rattle.tl_tickets.specs.Inbox.{PassView, IsSenderOf, fresh_passes}
use Rattle.tl_tickets.proofs.Fresh.{fresh_are_senders, senders_are}
use Rattle.tl_runner_threads.proofs.mailbox.open_inbox.Goals as goal

pub returns-clause-senders : goal.returns-clause-senders
returns-clause-senders c =
    let inbox = c.in_ok-inbox.inbox in
    let rest = c.remove-receiver.ensures.items ∙ ap (λ (ps : List PassView). remove ps 0) c.in_ok-inbox.ensures.2 in
    subst (All (IsSenderOf inbox)) (sym rest) (fresh_are_senders inbox inbox.senders)

pub returns-clause-count : goal.returns-clause-count
returns-clause-count c =
    let inbox = c.in_ok-inbox.inbox in
    let all : length c.in_ok-inbox.passes.items ≡ length (fresh_passes inbox) = ap (λ (ps : List PassView). length ps) c.in_ok-inbox.ensures.2 in
    let many : length (fresh_passes inbox) ≡ inbox.senders + 1 = omega (arith, senders_are inbox inbox.senders) in
    omega (arith, c.remove-receiver.ensures.len, c.in_ok-inbox.passes.ok.0, all, many, c.in_ok-inbox.ensures.1)
