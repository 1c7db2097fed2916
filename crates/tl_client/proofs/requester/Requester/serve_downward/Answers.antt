use Rattle.std.proofs.Common.{◌≡◌, ◌<◌, [], List, false, drop, length, refl, sym, ◌∙◌, ap, subst}
use Rattle.tl_types.specs.declared.ticket.Ticket.{Ticket}
use Rattle.tl_client.specs.Agents.{ClientLinks, NoneServed}
use Rattle.tl_client_mail.specs.Rounds.{Round, all_of, once_asked}
use Rattle.tl_client_ports.specs.Ports.{asked}
use Rattle.tl_client_ports.specs.declared.port.Asked.{Asked}
use Rattle.tl_client.proofs.AgentLaws.{WentTwice, twice-passed, twice-asked, twice-all, none-asked}
use Rattle.tl_client.proofs.ServeLaws.{fewer, rest-asked}
use Rattle.tl_client.proofs.requester.Requester.serve_downward.Goals as goal

pub loop-ticket-init : goal.loop-ticket-init
loop-ticket-init g c = record {
  client = ap (λ (v : ClientLinks). v.client) c.self.view_is;
  banks = ap (λ (v : ClientLinks). v.banks) c.self.view_is;
  probes = ap (λ (v : ClientLinks). v.probes) c.self.view_is;
  successes = refl;
  inbox = refl;
  done = refl;
  quiet = λ none. (ap (λ (v : ClientLinks). v.awaits) c.self.view_is, refl);
  went = (
    [],
    refl,
    (
      [],
      [],
      ap (λ (v : ClientLinks). all_of v.downward) (sym c.self.view_is) ∙ ap (λ (w : Round). w.rest) (sym c.begin.ensures),
      refl,
      (refl, ap (λ (w : Round). w.kept) c.begin.ensures),
    ),
  );
}

pub loop-ticket-preserved : goal.loop-ticket-preserved
loop-ticket-preserved g c =
    let all : List Ticket = all_of c.args.self.now.downward in
    let before : List Asked = g.P.Port.asked c.args.port.now in
    let after : List Asked = g.P.Port.asked c.loop-ticket.port in
    let new : List Asked = g.P.Port.asked c.take_answer.new.port in
    let old : Round = c.self-in-loop-ticket.inside.downward in
    let was : WentTwice all before old after =
    subst (λ (v : ClientLinks). WentTwice all before v.downward after) (sym c.self-in-loop-ticket.view_is) c.loop-ticket.invariant.went in
    let passed : WentTwice all before c.next.new.self after = twice-passed all before after old c.next.new.self was c.next.ensures.order c.next.ensures.barred in
    let same : c.self-in-Some.inside.downward ≡ c.next.new.self = ap (λ (v : ClientLinks). v.downward) c.self-in-Some.view_is ∙ ap (λ (v : ClientLinks). v.downward) c.take_answer.ensures.same in
    let is : c.answered.new.self ≡ once_asked c.in_ok-served.served c.next.new.self =
    c.answered.ensures ∙ ap (λ (w : Round). once_asked c.in_ok-served.served w) same in
    record {
      client = ap (λ (v : ClientLinks). v.client) c.self-in-Some.view_is ∙ ap (λ (v : ClientLinks). v.client) c.take_answer.ensures.same ∙ ap (λ (v : ClientLinks). v.client) c.self-in-loop-ticket.view_is ∙ c.loop-ticket.invariant.client;
      banks = ap (λ (v : ClientLinks). v.banks) c.self-in-Some.view_is ∙ ap (λ (v : ClientLinks). v.banks) c.take_answer.ensures.same ∙ ap (λ (v : ClientLinks). v.banks) c.self-in-loop-ticket.view_is ∙ c.loop-ticket.invariant.banks;
      probes = ap (λ (v : ClientLinks). v.probes) c.self-in-Some.view_is ∙ ap (λ (v : ClientLinks). v.probes) c.take_answer.ensures.same ∙ ap (λ (v : ClientLinks). v.probes) c.self-in-loop-ticket.view_is ∙ c.loop-ticket.invariant.probes;
      successes = c.take_answer.ensures.successes ∙ c.loop-ticket.invariant.successes;
      inbox = c.take_answer.ensures.inbox ∙ c.loop-ticket.invariant.inbox;
      done = c.take_answer.ensures.done ∙ c.loop-ticket.invariant.done;
      quiet = λ none. (let were : NoneServed after × (c.in_ok-served.served ≡ false) =
          none-asked (asked c.in-Some.ticket c.in_ok-served.served) after new c.in_ok-served.ensures.asked none in (
            ap (λ (v : ClientLinks). v.awaits) c.self-in-Some.view_is ∙ ap (λ (v : ClientLinks). v.awaits) (c.in_ok-served.ensures.refused were.1)
                ∙ ap (λ (v : ClientLinks). v.awaits) c.self-in-loop-ticket.view_is ∙ (c.loop-ticket.invariant.quiet were.0).0,
            c.in_ok-served.ensures.sent were.1 ∙ (c.loop-ticket.invariant.quiet were.0).1,
          ));
      went = subst (λ (w : Round). WentTwice all before w new) (sym is)
          (twice-asked all before after new c.next.new.self c.in-Some.ticket c.in_ok-served.served passed c.in-Some.ensures.next c.in_ok-served.ensures.asked);
    }

pub returns-clause-served : goal.returns-clause-served
returns-clause-served g c =
    let all : List Ticket = all_of c.args.self.now.downward in
    let before : List Asked = g.P.Port.asked c.args.port.now in
    let after : List Asked = g.P.Port.asked c.loop-ticket.port in
    let old : Round = c.self-in-loop-ticket.inside.downward in
    let was : WentTwice all before old after =
    subst (λ (v : ClientLinks). WentTwice all before v.downward after) (sym c.self-in-loop-ticket.view_is) c.loop-ticket.invariant.went in
    let passed : WentTwice all before c.next.new.self after = twice-passed all before after old c.next.new.self was c.next.ensures.order c.next.ensures.barred in (
      ap (λ (v : ClientLinks). v.client) c.self-in-loop-ticket.view_is ∙ c.loop-ticket.invariant.client,
      ap (λ (v : ClientLinks). v.banks) c.self-in-loop-ticket.view_is ∙ c.loop-ticket.invariant.banks,
      ap (λ (v : ClientLinks). v.probes) c.self-in-loop-ticket.view_is ∙ c.loop-ticket.invariant.probes,
      twice-all all before after c.next.new.self passed c.in_default.ensures.next,
    )

pub returns-clause-quiet : goal.returns-clause-quiet
returns-clause-quiet g c none = (
  ap (λ (v : ClientLinks). v.awaits) c.self-in-loop-ticket.view_is ∙ (c.loop-ticket.invariant.quiet none).0,
  (c.loop-ticket.invariant.quiet none).1,
)

pub loop-ticket-smaller : goal.loop-ticket-smaller
loop-ticket-smaller g c =
    let old : Round = c.self-in-loop-ticket.inside.downward in
    let less : length (drop 1 c.next.new.self.rest) < length old.rest =
    fewer old c.next.new.self c.in-Some.ticket c.next.ensures.order c.next.ensures.barred c.in-Some.ensures.next.1 in
    let same : c.self-in-Some.inside.downward ≡ c.next.new.self = ap (λ (v : ClientLinks). v.downward) c.self-in-Some.view_is ∙ ap (λ (v : ClientLinks). v.downward) c.take_answer.ensures.same in
    let is : c.answered.new.self.rest ≡ drop 1 c.next.new.self.rest =
    ap (λ (w : Round). w.rest) c.answered.ensures ∙ rest-asked c.in_ok-served.served c.self-in-Some.inside.downward ∙ ap (λ (w : Round). drop 1 w.rest) same in
    subst (λ (v : ClientLinks). length c.answered.new.self.rest < length v.downward.rest) c.self-in-loop-ticket.view_is
    (subst (λ (r : List Ticket). length r < length old.rest) (sym is) less)
