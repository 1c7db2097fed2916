use Rattle.std.proofs.Common.{subst}
use Rattle.tl_protocol_lanes.proofs.Delivery.{every_message_is_delivered_in_order}
use Rattle.tl_bank_spec.proofs.Coherent.{run-coherent}
use Rattle.tl_bank_spec.specs.View.{View, shape_of}
use Rattle.tl_bank_laws.specs.Means.{Means}
use Rattle.tl_bank.specs.Shown.{layers}
use Rattle.tl_bank.proofs.bank.Bank.log.Goals as goal

pub returns-clause-coherent : goal.returns-clause-coherent
returns-clause-coherent c =
    let m : Means c.args.self.now (layers c.self.inside) =
    subst (λ (v : View). Means v (layers c.self.inside)) c.self.view_is c.self.invariant in
    run-coherent c.args.self.now m.lawful.run

pub returns-clause-delivered : goal.returns-clause-delivered
returns-clause-delivered c client channel =
    let m : Means c.args.self.now (layers c.self.inside) =
    subst (λ (v : View). Means v (layers c.self.inside)) c.self.view_is c.self.invariant in
    every_message_is_delivered_in_order (shape_of c.args.self.now.geometry) c.args.self.now.image c.args.self.now.log client channel
    m.lawful
