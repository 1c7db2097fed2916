use Rattle.std.proofs.Common.{subst}
use Rattle.tl_bank_spec.specs.View.{View}
use Rattle.tl_bank_laws.specs.Means.{Means}
use Rattle.tl_bank.specs.Shown.{layers}
use Rattle.tl_bank_laws.proofs.Opens.{slot-found}
use Rattle.tl_bank.proofs.bank.Bank.block_in.Goals as goal

pub returns : goal.returns
returns c =
    let m : Means c.args.self.now (layers c.self.inside) =
    subst (λ (v : View). Means v (layers c.self.inside)) c.self.view_is c.self.invariant in
    slot-found c.args.self.now (layers c.self.inside) c.args.set c.args.way c.occupant.result m c.requires.set c.requires.way
    c.occupant.ensures.inside c.occupant.ensures.set c.occupant.ensures.way c.occupant.ensures.free
