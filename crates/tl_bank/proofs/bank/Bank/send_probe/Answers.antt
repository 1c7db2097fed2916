use Rattle.std.proofs.Common.{◌∙◌, ◌<◌, ◌^◌, ◌-◌, length, arith, ap, refl, subst, sym}
use Rattle.tl_types.specs.declared.channel.Channel.TheVariants.{B}
use Rattle.tl_types.specs.declared.ticket.Ticket.{Ticket}
use Rattle.tl_registers.specs.declared.due.Due.TheVariants.{Probe}
use Rattle.tl_bank_spec.specs.View.{View}
use Rattle.tl_bank_spec.specs.declared.action.Action.TheVariants.{Probe as did_Probe}
use Rattle.tl_bank.specs.Shown.{shown, layers}
use Rattle.tl_bank_laws.proofs.Dues.{acts-at, advances-at, client-few, probe-free, ticket-is}
use Rattle.tl_bank_laws.proofs.SendProbe.{channel-room, probe-keeps}
use Rattle.tl_bank.proofs.bank.Bank.send_probe.Goals as goal

pub send-ticket-requires : goal.send-ticket-requires
send-ticket-requires c =
    let v : View = shown c.self.inside in
    let acts = acts-at v c.args.self.now (layers c.self.inside) c.args.own (Probe c.args.client c.args.block c.args.cap)
    c.self.invariant c.self.view_is c.requires.permitted c.requires.due in
    channel-room v (layers c.self.inside) c.args.client B c.self.invariant acts.may.1.0
    (probe-free v c.args.self.now c.args.own c.args.client c.args.block c.args.cap c.self.view_is c.requires.permitted c.requires.due)
    (subst (λ (w : View). length w.log < 2 ^ 64 - 1) (sym c.self.view_is) c.requires.small)

pub invariant_of-self : goal.invariant_of-self
invariant_of-self c =
    let v : View = shown c.self.inside in
    rw (c.append.ensures.events, c.append.ensures.forgotten, c.note_probe.ensures)
    (probe-keeps v (layers c.self.inside) c.args.own c.args.client c.args.block c.args.cap c.append.new.self.room c.send-ticket.new.links
    c.self.invariant
    (acts-at v c.args.self.now (layers c.self.inside) c.args.own (Probe c.args.client c.args.block c.args.cap)
    c.self.invariant c.self.view_is c.requires.permitted c.requires.due)
    c.send-ticket.ensures.same c.send-ticket.ensures.after)

pub returns : goal.returns
returns c =
    let v : View = shown c.self.inside in
    let acts = acts-at v c.args.self.now (layers c.self.inside) c.args.own (Probe c.args.client c.args.block c.args.cap)
    c.self.invariant c.self.view_is c.requires.permitted c.requires.due in
    let left = c.append.ensures.room in
    rw (c.append.ensures.forgotten, c.note_probe.ensures)
    (advances-at v c.args.self.now c.args.own (Probe c.args.client c.args.block c.args.cap) (did_Probe c.send-ticket.result)
    c.append.new.self.events c.append.new.self.room v.ways c.self.view_is c.requires.due c.append.ensures.events
    (omega (arith, left)) (λ b. refl)
    (ap (λ (t : Ticket). did_Probe t)
    (c.send-ticket.ensures.ticket ∙ ticket-is v (layers c.self.inside) c.args.client B c.self.invariant acts.may.1.0)))

pub note_probe-requires : goal.note_probe-requires
note_probe-requires c =
    let v : View = shown c.self.inside in
    let acts = acts-at v c.args.self.now (layers c.self.inside) c.args.own (Probe c.args.client c.args.block c.args.cap)
    c.self.invariant c.self.view_is c.requires.permitted c.requires.due in
    client-few v (layers c.self.inside) c.args.client c.self.invariant acts.may.1.0
