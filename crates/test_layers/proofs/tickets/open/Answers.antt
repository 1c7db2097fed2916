use Rattle.std.proofs.Common.{List, refl, ap, sym, subst, ◌∙◌, get_or}
use Rattle.std.specs.List.{All, remove}
use Rattle.tl_tickets.specs.Inbox.{PassView, IsReceiverOf, IsSenderOf}
use Rattle.tl_tickets.proofs.Fresh.{fresh_are_senders}
use Rattle.test_layers.proofs.tickets.open.Goals as goal

pub returns : goal.returns
returns c =
    let inbox = c.in_ok-inbox.inbox in
    let fresh = c.in_ok-inbox.ensures.2 in
    let receiver = c.remove-receiver.ensures.value ∙ ap (λ (ps : List PassView). get_or ps 0 c.remove-receiver.result) fresh in
    let rest = c.remove-receiver.ensures.items ∙ ap (λ (ps : List PassView). remove ps 0) fresh in
    (subst (IsReceiverOf inbox) (sym receiver) ((refl, refl), refl), subst (All (IsSenderOf inbox)) (sym rest) (fresh_are_senders inbox inbox.senders))
