use Rattle.std.proofs.Common.{◌≡◌, length}
use Rattle.tl_client_mail.specs.Rounds.{all_of}
use Rattle.tl_client.proofs.ServeLaws.{Went}
use Rattle.tl_client.proofs.home.Home.serve_tickets.Given as goal

-- how far the round has gone, and what stays
abbrev pub invariant-loop-ticket : goal.invariant-loop-ticket
invariant-loop-ticket g l = record {
  bank : l.self.bank ≡ l.fn.self.bank;
  inbox : l.mail.inbox ≡ l.fn.mail.inbox;
  done : l.mail.done ≡ l.fn.mail.done;
  went : Went (all_of l.fn.self.waiting) (g.P.HomePort.asked l.fn.port) l.self.waiting (g.P.HomePort.asked l.port);
}

abbrev pub decreases-loop-ticket : goal.decreases-loop-ticket
decreases-loop-ticket g l = length l.self.waiting.rest
