use Rattle.std.proofs.Common.{◌∙◌, subst}
use Rattle.tl_bank_spec.specs.View.{View}
use Rattle.tl_bank_laws.specs.Means.{Means}
use Rattle.tl_bank.specs.Shown.{layers}
use Rattle.tl_bank_laws.proofs.Views.{recorded-is, recorded-covers}
use Rattle.tl_bank.proofs.bank.Bank.directory.Goals as goal

pub returns-clause-covers : goal.returns-clause-covers
returns-clause-covers c lt own =
    let m : Means c.args.self.now (layers c.self.inside) =
    subst (λ (v : View). Means v (layers c.self.inside)) c.self.view_is c.self.invariant in
    rw (c.recorded.ensures ∙ recorded-is c.args.self.now (layers c.self.inside) c.args.client c.args.block m own)
    (recorded-covers c.args.self.now (layers c.self.inside) c.args.client c.args.block m)
