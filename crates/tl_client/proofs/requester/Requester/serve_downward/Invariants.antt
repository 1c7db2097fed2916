use Rattle.std.proofs.Common.{◌≡◌, length}
use Rattle.tl_client_mail.specs.Rounds.{all_of}
use Rattle.tl_client_mail.specs.Ways.{sent_by}
use Rattle.tl_client.specs.Agents.{StaysQuiet}
use Rattle.tl_client.proofs.AgentLaws.{WentTwice}
use Rattle.tl_client.proofs.requester.Requester.serve_downward.Given as goal

-- how far the round has gone, and what stays
abbrev pub invariant-loop-ticket : goal.invariant-loop-ticket
invariant-loop-ticket g l = record {
  client : l.self.client ≡ l.fn.self.client;
  banks : l.self.banks ≡ l.fn.self.banks;
  probes : l.self.probes ≡ l.fn.self.probes;
  successes : g.P.Port.successes l.port ≡ g.P.Port.successes l.fn.port;
  inbox : l.mail.inbox ≡ l.fn.mail.inbox;
  done : l.mail.done ≡ l.fn.mail.done;
  quiet : StaysQuiet l.fn.self (sent_by l.fn.mail) l.self (sent_by l.mail) (g.P.Port.asked l.port);
  went : WentTwice (all_of l.fn.self.downward) (g.P.Port.asked l.fn.port) l.self.downward (g.P.Port.asked l.port);
}

abbrev pub decreases-loop-ticket : goal.decreases-loop-ticket
decreases-loop-ticket g l = length l.self.downward.rest
