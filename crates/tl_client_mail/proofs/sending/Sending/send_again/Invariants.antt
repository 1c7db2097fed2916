use Rattle.std.proofs.Common.{◌≡◌, length}
use Rattle.tl_client_mail.specs.Ways.{sent_on, RingsAsItPuts}
use Rattle.tl_client_mail.proofs.sending.Sending.send_again.Given as goal

-- what was sent stays, and each ticket that was put was followed by a ring
abbrev pub invariant-loop-ticket : goal.invariant-loop-ticket
invariant-loop-ticket g l = (sent_on l.self ≡ sent_on l.fn.self) × RingsAsItPuts l.fn.self l.self

abbrev pub decreases-loop-ticket : goal.decreases-loop-ticket
decreases-loop-ticket g l = length l.self.back
