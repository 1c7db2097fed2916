-- What is gained is gained by the command alone, and so is what is awaited where no ticket is served.
use Rattle.std.proofs.Common.{◌≡◌, List, refl, ◌∙◌, ap, subst}
use Rattle.tl_client_mail.specs.Ways.{sent_by}
use Rattle.tl_client_ports.specs.declared.port.Asked.{Asked}
use Rattle.tl_client.specs.Agents.{NoneServed}
use Rattle.tl_client.specs.Answers.{AgentView, answered_of}
use Rattle.tl_client.proofs.AgentLaws.{none-first}
use Rattle.tl_client.proofs.AnswerLaws.{gains-same}
use Rattle.tl_client.proofs.agent.Agent.work.Goals as goal

pub returns-in_err-try_command-clause-gains : goal.returns-in_err-try_command-clause-gains
returns-in_err-try_command-clause-gains g c =
    let t : AgentView = c.args.self.now in
    let v = c.self.view_is in
    let t1 : AgentView = record { links = c.serve_downward.new.self; script = c.self.inside.script.now; answered = answered_of c.self.inside.bytes.items c.self.inside.script.now; clock = c.self.inside.clock; has_rung = c.self.inside.has_rung } in
    gains-same t t1 c.try_command.new.self c.try_command.new.self
    (g.P.Port.successes c.args.port.now) (g.P.Port.successes c.serve_downward.new.port) (g.P.Port.successes c.try_command.new.port) (g.P.Port.successes c.try_command.new.port)
    (c.serve_downward.ensures.client ∙ c.take_tickets.ensures.client ∙ ap (λ (a : AgentView). a.links.client) v)
    (ap (λ (a : AgentView). a.script) v) (ap (λ (a : AgentView). a.answered) v) (ap (λ (a : AgentView). a.clock) v)
    (c.serve_downward.ensures.successes ∙ c.begin.ensures.successes) c.try_command.ensures.gains
    refl refl refl refl refl

pub returns-in_err-serve_probes-clause-gains : goal.returns-in_err-serve_probes-clause-gains
returns-in_err-serve_probes-clause-gains g c =
    let t : AgentView = c.args.self.now in
    let v = c.self.view_is in
    let t1 : AgentView = record { links = c.serve_downward.new.self; script = c.self.inside.script.now; answered = answered_of c.self.inside.bytes.items c.self.inside.script.now; clock = c.self.inside.clock; has_rung = c.self.inside.has_rung } in
    gains-same t t1 c.try_command.new.self (record { links = c.serve_probes.new.self; script = c.self-2.inside.script.now; answered = answered_of c.self-2.inside.bytes.items c.self-2.inside.script.now; clock = c.self-2.inside.clock; has_rung = c.self-2.inside.has_rung })
    (g.P.Port.successes c.args.port.now) (g.P.Port.successes c.serve_downward.new.port) (g.P.Port.successes c.try_command.new.port) (g.P.Port.successes c.serve_probes.new.port)
    (c.serve_downward.ensures.client ∙ c.take_tickets.ensures.client ∙ ap (λ (a : AgentView). a.links.client) v)
    (ap (λ (a : AgentView). a.script) v) (ap (λ (a : AgentView). a.answered) v) (ap (λ (a : AgentView). a.clock) v)
    (c.serve_downward.ensures.successes ∙ c.begin.ensures.successes) c.try_command.ensures.gains
    (c.serve_probes.ensures.client ∙ ap (λ (a : AgentView). a.links.client) c.self-2.view_is) (ap (λ (a : AgentView). a.script) c.self-2.view_is) (ap (λ (a : AgentView). a.answered) c.self-2.view_is) (ap (λ (a : AgentView). a.clock) c.self-2.view_is) c.serve_probes.ensures.successes

pub returns-clause-gains : goal.returns-clause-gains
returns-clause-gains g c =
    let t : AgentView = c.args.self.now in
    let v = c.self.view_is in
    let t1 : AgentView = record { links = c.serve_downward.new.self; script = c.self.inside.script.now; answered = answered_of c.self.inside.bytes.items c.self.inside.script.now; clock = c.self.inside.clock; has_rung = c.self.inside.has_rung } in
    gains-same t t1 c.try_command.new.self (record { links = c.self-3.inside.requester; script = c.self-3.inside.script.now; answered = answered_of c.self-3.inside.bytes.items c.self-3.inside.script.now; clock = c.self-3.inside.clock; has_rung = c.self-3.inside.has_rung })
    (g.P.Port.successes c.args.port.now) (g.P.Port.successes c.serve_downward.new.port) (g.P.Port.successes c.try_command.new.port) (g.P.Port.successes c.serve_probes.new.port)
    (c.serve_downward.ensures.client ∙ c.take_tickets.ensures.client ∙ ap (λ (a : AgentView). a.links.client) v)
    (ap (λ (a : AgentView). a.script) v) (ap (λ (a : AgentView). a.answered) v) (ap (λ (a : AgentView). a.clock) v)
    (c.serve_downward.ensures.successes ∙ c.begin.ensures.successes) c.try_command.ensures.gains
    (ap (λ (a : AgentView). a.links.client) c.self-3.view_is ∙ ap (λ (a : AgentView). a.links.client) c.finish.ensures.same ∙ c.serve_probes.ensures.client ∙ ap (λ (a : AgentView). a.links.client) c.self-2.view_is) (ap (λ (a : AgentView). a.script) c.self-3.view_is ∙ ap (λ (a : AgentView). a.script) c.finish.ensures.same ∙ ap (λ (a : AgentView). a.script) c.self-2.view_is) (ap (λ (a : AgentView). a.answered) c.self-3.view_is ∙ ap (λ (a : AgentView). a.answered) c.finish.ensures.same ∙ ap (λ (a : AgentView). a.answered) c.self-2.view_is) (ap (λ (a : AgentView). a.clock) c.self-3.view_is ∙ ap (λ (a : AgentView). a.clock) c.finish.ensures.same ∙ ap (λ (a : AgentView). a.clock) c.self-2.view_is) c.serve_probes.ensures.successes

pub returns-clause-awaits : goal.returns-clause-awaits
returns-clause-awaits g c none =
    let tried : NoneServed (g.P.Port.asked c.try_command.new.port) =
    none-first (g.P.Port.asked c.try_command.new.port) c.in_ok-serve_probes.ensures.served.3.0
    (subst (λ (calls : List Asked). NoneServed calls) c.in_ok-serve_probes.ensures.served.3.1 none) in
    let first = c.in_ok-serve_downward.ensures.quiet (subst (λ (calls : List Asked). NoneServed calls) c.try_command.ensures.asked tried) in
    let last = c.in_ok-serve_probes.ensures.quiet none in
    let begins : c.serve_downward.new.self.awaits ≡ c.args.self.now.links.awaits =
    first.0 ∙ c.take_tickets.ensures.awaits ∙ ap (λ (a : AgentView). a.links.awaits) c.self.view_is in
    let ends : c.self-3.inside.requester.awaits ≡ c.try_command.new.self.links.awaits =
    ap (λ (a : AgentView). a.links.awaits) c.self-3.view_is ∙ ap (λ (a : AgentView). a.links.awaits) c.finish.ensures.same
    ∙ last.0 ∙ ap (λ (a : AgentView). a.links.awaits) c.self-2.view_is in
    let until : sent_by c.serve_downward.new.mail ≡ sent_by c.args.mail.now = first.1 ∙ c.take_tickets.ensures.sent in
    let since : sent_by c.finish.new.mail ≡ sent_by c.try_command.new.mail = c.finish.ensures.sent ∙ last.1 in (
      λ awaited. (ends ∙ c.try_command.ensures.waits (begins ∙ awaited)),
      λ more. (ends ∙ c.try_command.ensures.awaits (λ same. (more (since ∙ same ∙ until)))),
    )
