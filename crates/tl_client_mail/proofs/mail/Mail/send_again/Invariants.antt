use Rattle.std.proofs.Common.{◌≡◌, false, vec_len, map}
use Rattle.tl_client_mail.specs.Ways.{sent_on}
use Rattle.tl_client_mail.proofs.mail.Mail.send_again.Given as goal

-- what was sent stays, and so do the inbox and the done bell
abbrev pub invariant-loop-to : goal.invariant-loop-to
invariant-loop-to g l =
    (map sent_on l.self-inside.sending.items ≡ map sent_on l.initial.self-inside.sending.items)
    × (vec_len l.self-inside.sending ≡ vec_len l.initial.self-inside.sending)
    × (l.self-inside.inbox ≡ l.initial.self-inside.inbox)
    × (l.self-inside.has_room ≡ false)
    × (l.self-inside.done ≡ l.initial.self-inside.done)
