use Rattle.std.proofs.Common.{sym, ◌∙◌, ap, subst, rules}
use Rattle.tl_types.specs.Lane.{Lane}
use Rattle.tl_bank_spec.specs.View.{View}
use Rattle.tl_bank_laws.specs.Means.{Means}
use Rattle.tl_bank.specs.Shown.{layers}
use Rattle.tl_bank_laws.proofs.Heads.{first-inside}
use Rattle.tl_bank.proofs.bank.Bank.first_message.Goals as goal

pub returns-clause-first : goal.returns-clause-first
returns-clause-first c =
    let m : Means c.args.self.now (layers c.self.inside) =
    subst (λ (v : View). Means v (layers c.self.inside)) c.self.view_is c.self.invariant in
    (c.in-Some.ensures.0, ap (λ (lane : Lane). lane.messages) (sym (m.lanes c.args.ticket.now.client c.args.channel c.requires)) ∙ c.in-Some.ensures.1)

pub returns-clause-inside : goal.returns-clause-inside
returns-clause-inside c =
    let m : Means c.args.self.now (layers c.self.inside) =
    subst (λ (v : View). Means v (layers c.self.inside)) c.self.view_is c.self.invariant in
    first-inside c.args.self.now (layers c.self.inside) c.args.ticket.now.client c.args.channel c.in-Some.message.now c.in-Some.ensures.0 m
    c.requires c.in-Some.ensures.1

pub returns-clause-permitted : goal.returns-clause-permitted
returns-clause-permitted c = search rules
