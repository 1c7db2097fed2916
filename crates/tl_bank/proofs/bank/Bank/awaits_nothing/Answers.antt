use Rattle.std.proofs.Common.{subst}
use Rattle.tl_bank_spec.specs.View.{View}
use Rattle.tl_bank_laws.specs.Means.{Means}
use Rattle.tl_bank.specs.Shown.{layers}
use Rattle.tl_bank_laws.proofs.Holders.{awaits-is}
use Rattle.tl_bank.proofs.bank.Bank.awaits_nothing.Goals as goal

pub returns : goal.returns
returns c =
    let m : Means c.args.self.now (layers c.self.inside) =
    subst (λ (v : View). Means v (layers c.self.inside)) c.self.view_is c.self.invariant in
    let both = awaits-is c.args.self.now (layers c.self.inside) c.args.client m c.requires in
    ((λ h. both.0 (c.awaits_nothing.ensures.0 h)), (λ h. c.awaits_nothing.ensures.1 (both.1 h)))
