use Rattle.std.proofs.Common.{◌≡◌, ◌<◌, [], ◌∷◌, ◌++◌, List, Bool, true, false, drop, length, take, refl, sym, ◌∙◌, ap, subst, append-nil}
use Rattle.tl_types.specs.declared.ticket.Ticket.{Ticket}
use Rattle.tl_client_ports.specs.Ports.{asked}
use Rattle.tl_client.specs.Homes.{Waits}
use Rattle.tl_client_mail.specs.Rounds.{Round, all_of}
use Rattle.tl_client_ports.specs.declared.port.Asked.{Asked}
use Rattle.tl_client.proofs.ServeLaws.{Went, went-passed, went-served, went-refused, went-all, fewer}
use Rattle.tl_client.proofs.home.Home.serve_tickets.Goals as goal

pub loop-ticket-init : goal.loop-ticket-init
loop-ticket-init g c = record {
  bank = ap (λ (v : Waits). v.bank) c.self.view_is;
  inbox = refl;
  done = refl;
  went = (
    [],
    [],
    ap (λ (v : Waits). all_of v.waiting) (sym c.self.view_is) ∙ ap (λ (w : Round). w.rest) (sym c.begin.ensures),
    sym (append-nil (g.P.HomePort.asked c.args.port.now)),
    (refl, ap (λ (w : Round). w.kept) c.begin.ensures),
  );
}

pub loop-ticket-preserved-then-branch : goal.loop-ticket-preserved-then-branch
loop-ticket-preserved-then-branch g c =
    let all : List Ticket = all_of c.args.self.now.waiting in
    let before : List Asked = g.P.HomePort.asked c.args.port.now in
    let after : List Asked = g.P.HomePort.asked c.loop-ticket.port in
    let new : List Asked = g.P.HomePort.asked c.serve.new.port in
    let old : Round = c.self-in-loop-ticket.inside.waiting in
    let was : Went all before old after =
    subst (λ (v : Waits). Went all before v.waiting after) (sym c.self-in-loop-ticket.view_is) c.loop-ticket.invariant.went in
    let passed : Went all before c.next.new.self after = went-passed all before after old c.next.new.self was c.next.ensures.order c.next.ensures.barred in
    let more : new ≡ after ++ asked c.in-Some.ticket true ∷ [] =
    c.in_ok-serve.ensures.asked ∙ ap (λ (b : Bool). after ++ asked c.in-Some.ticket b ∷ []) c.if-branch.true in
    let same : c.self-in-Some.inside.waiting ≡ c.next.new.self = ap (λ (v : Waits). v.waiting) (c.self-in-Some.view_is ∙ c.serve.ensures.same) in
    let is : c.served.new.self ≡ record c.next.new.self { rest = drop 1 c.next.new.self.rest } =
    c.served.ensures ∙ ap (λ (w : Round). record w { rest = drop 1 w.rest }) same in
    record {
      bank = ap (λ (v : Waits). v.bank) (c.self-in-Some.view_is ∙ c.serve.ensures.same) ∙ ap (λ (v : Waits). v.bank) c.self-in-loop-ticket.view_is ∙ c.loop-ticket.invariant.bank;
      inbox = c.serve.ensures.inbox ∙ c.loop-ticket.invariant.inbox;
      done = c.serve.ensures.done ∙ c.loop-ticket.invariant.done;
      went = subst (λ (w : Round). Went all before w new) (sym is)
          (went-served all before after new c.next.new.self c.in-Some.ticket passed c.in-Some.ensures.next more);
    }

pub loop-ticket-preserved : goal.loop-ticket-preserved
loop-ticket-preserved g c =
    let all : List Ticket = all_of c.args.self.now.waiting in
    let before : List Asked = g.P.HomePort.asked c.args.port.now in
    let after : List Asked = g.P.HomePort.asked c.loop-ticket.port in
    let new : List Asked = g.P.HomePort.asked c.serve.new.port in
    let old : Round = c.self-in-loop-ticket.inside.waiting in
    let was : Went all before old after =
    subst (λ (v : Waits). Went all before v.waiting after) (sym c.self-in-loop-ticket.view_is) c.loop-ticket.invariant.went in
    let passed : Went all before c.next.new.self after = went-passed all before after old c.next.new.self was c.next.ensures.order c.next.ensures.barred in
    let more : new ≡ after ++ asked c.in-Some.ticket false ∷ [] =
    c.in_ok-serve.ensures.asked ∙ ap (λ (b : Bool). after ++ asked c.in-Some.ticket b ∷ []) c.if-branch.false in
    let same : c.self-in-Some.inside.waiting ≡ c.next.new.self = ap (λ (v : Waits). v.waiting) (c.self-in-Some.view_is ∙ c.serve.ensures.same) in
    let is : c.refused.new.self ≡ record c.next.new.self { kept = c.next.new.self.kept ++ take 1 c.next.new.self.rest; rest = drop 1 c.next.new.self.rest } =
    c.refused.ensures ∙ ap (λ (w : Round). record w { kept = w.kept ++ take 1 w.rest; rest = drop 1 w.rest }) same in
    record {
      bank = ap (λ (v : Waits). v.bank) (c.self-in-Some.view_is ∙ c.serve.ensures.same) ∙ ap (λ (v : Waits). v.bank) c.self-in-loop-ticket.view_is ∙ c.loop-ticket.invariant.bank;
      inbox = c.serve.ensures.inbox ∙ c.loop-ticket.invariant.inbox;
      done = c.serve.ensures.done ∙ c.loop-ticket.invariant.done;
      went = subst (λ (w : Round). Went all before w new) (sym is)
          (went-refused all before after new c.next.new.self c.in-Some.ticket passed c.in-Some.ensures.next more);
    }

pub returns-clause-served : goal.returns-clause-served
returns-clause-served g c =
    let all : List Ticket = all_of c.args.self.now.waiting in
    let before : List Asked = g.P.HomePort.asked c.args.port.now in
    let after : List Asked = g.P.HomePort.asked c.loop-ticket.port in
    let old : Round = c.self-in-loop-ticket.inside.waiting in
    let was : Went all before old after =
    subst (λ (v : Waits). Went all before v.waiting after) (sym c.self-in-loop-ticket.view_is) c.loop-ticket.invariant.went in
    let passed : Went all before c.next.new.self after = went-passed all before after old c.next.new.self was c.next.ensures.order c.next.ensures.barred in (
      ap (λ (v : Waits). v.bank) c.self-in-loop-ticket.view_is ∙ c.loop-ticket.invariant.bank,
      went-all all before after c.next.new.self passed c.in_default.ensures.next,
    )

pub loop-ticket-smaller-then-branch : goal.loop-ticket-smaller-then-branch
loop-ticket-smaller-then-branch g c =
    let old : Round = c.self-in-loop-ticket.inside.waiting in
    let less : length (drop 1 c.next.new.self.rest) < length old.rest =
    fewer old c.next.new.self c.in-Some.ticket c.next.ensures.order c.next.ensures.barred c.in-Some.ensures.next.1 in
    let same : c.self-in-Some.inside.waiting ≡ c.next.new.self = ap (λ (v : Waits). v.waiting) (c.self-in-Some.view_is ∙ c.serve.ensures.same) in
    let is : c.served.new.self.rest ≡ drop 1 c.next.new.self.rest =
    ap (λ (w : Round). w.rest) c.served.ensures ∙ ap (λ (w : Round). drop 1 w.rest) same in
    subst (λ (v : Waits). length c.served.new.self.rest < length v.waiting.rest) c.self-in-loop-ticket.view_is
    (subst (λ (r : List Ticket). length r < length old.rest) (sym is) less)

pub loop-ticket-smaller : goal.loop-ticket-smaller
loop-ticket-smaller g c =
    let old : Round = c.self-in-loop-ticket.inside.waiting in
    let less : length (drop 1 c.next.new.self.rest) < length old.rest =
    fewer old c.next.new.self c.in-Some.ticket c.next.ensures.order c.next.ensures.barred c.in-Some.ensures.next.1 in
    let same : c.self-in-Some.inside.waiting ≡ c.next.new.self = ap (λ (v : Waits). v.waiting) (c.self-in-Some.view_is ∙ c.serve.ensures.same) in
    let is : c.refused.new.self.rest ≡ drop 1 c.next.new.self.rest =
    ap (λ (w : Round). w.rest) c.refused.ensures ∙ ap (λ (w : Round). drop 1 w.rest) same in
    subst (λ (v : Waits). length c.refused.new.self.rest < length v.waiting.rest) c.self-in-loop-ticket.view_is
    (subst (λ (r : List Ticket). length r < length old.rest) (sym is) less)
