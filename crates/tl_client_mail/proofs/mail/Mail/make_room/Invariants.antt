use Rattle.std.proofs.Common.{◌≡◌, false, vec_len, map}
use Rattle.std.specs.List.{AllWithin}
use Rattle.tl_client_mail.specs.Ways.{HasRoom, sent_on}
use Rattle.tl_client_mail.proofs.mail.Mail.make_room.Given as goal

-- what was sent stays, and the ways so far have room
abbrev pub invariant-loop-to : goal.invariant-loop-to
invariant-loop-to l =
    (map sent_on l.self-inside.sending.items ≡ map sent_on l.initial.self-inside.sending.items)
    × (vec_len l.self-inside.sending ≡ vec_len l.initial.self-inside.sending)
    × AllWithin HasRoom l.self-inside.sending.items 0 l.to
    × (l.self-inside.inbox ≡ l.initial.self-inside.inbox)
    × (l.self-inside.has_room ≡ false)
    × (l.self-inside.done ≡ l.initial.self-inside.done)
