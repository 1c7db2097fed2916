use Rattle.std.proofs.Common.{◌≡◌}
use Rattle.tl_client.proofs.home.Home.advance_registers.Given as goal

-- no ticket is asked, none comes or goes, and the done bell is left alone
abbrev pub invariant-loop-block : goal.invariant-loop-block
invariant-loop-block g l =
    (g.P.HomePort.asked l.port ≡ g.P.HomePort.asked l.fn.port) × (l.self ≡ l.fn.self) × (l.mail.inbox ≡ l.fn.mail.inbox)
    × (l.mail.done ≡ l.fn.mail.done)
