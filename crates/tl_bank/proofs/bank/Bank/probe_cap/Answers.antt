use Rattle.std.proofs.Common.{subst}
use Rattle.tl_bank_spec.specs.View.{View}
use Rattle.tl_bank_laws.specs.Means.{Means}
use Rattle.tl_bank_laws.proofs.Probes.{probe-is}
use Rattle.tl_bank.specs.Shown.{layers}
use Rattle.tl_bank.proofs.bank.Bank.probe_cap.Goals as goal

pub unreachable-requires : goal.unreachable-requires
unreachable-requires c =
    let m : Means c.args.self.now (layers c.self.inside) =
    subst (λ (v : View). Means v (layers c.self.inside)) c.self.view_is c.self.invariant in
    let is = probe-is c.args.self.now (layers c.self.inside) c.args.client c.args.message.now m c.requires in
    c.in_default.not-ProbeBlock is.0 is.1
