use Rattle.std.proofs.Common.{List, subst, rules}
use Rattle.std.specs.List.{All}
use Rattle.std.proofs.lemmas.List.Elements.{All-head}
use Rattle.tl_types.specs.declared.channel.Channel.TheVariants.{A}
use Rattle.tl_types.specs.declared.message.Message.{Message}
use Rattle.tl_bank_spec.specs.View.{View}
use Rattle.tl_bank_spec.specs.Own.{IsOwn}
use Rattle.tl_bank_laws.specs.Means.{Means}
use Rattle.tl_bank.specs.Shown.{layers}
use Rattle.tl_bank.proofs.bank.Bank.asked.Goals as goal

-- the message that the ticket names is of a block of this bank, as all that wait are
pub opening-requires : goal.opening-requires
opening-requires c =
    let v : View = c.args.self.now in
    let m : Means v (layers c.self.inside) =
    subst (λ (v : View). Means v (layers c.self.inside)) c.self.view_is c.self.invariant in
    let Own : Message → Type 0 = λ x. IsOwn v.geometry v.number x.block in
    let (rest, first) = c.in_ok-message.ensures.first in
    All-head Own c.in_ok-message.message.now rest
    (subst (λ (xs : List Message). All Own xs) first (m.inside c.args.ticket.now.client A))

pub returns-in_default-clause-refused : goal.returns-in_default-clause-refused
returns-in_default-clause-refused c = search rules

pub returns-clause-permitted : goal.returns-clause-permitted
returns-clause-permitted c = search rules
