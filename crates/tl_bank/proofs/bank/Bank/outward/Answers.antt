use Rattle.std.proofs.Common.{◌≢◌, ◌∙◌, sym, subst}
use Rattle.tl_protocol.specs.declared.home.Outward.TheVariants.{Quiet}
use Rattle.tl_bank_spec.specs.View.{View}
use Rattle.tl_bank_laws.specs.Means.{Means}
use Rattle.tl_bank.specs.Shown.{layers}
use Rattle.tl_bank_laws.proofs.Views.{outward-is}
use Rattle.tl_bank.proofs.bank.Bank.outward.Goals as goal

pub returns : goal.returns
returns c =
    let m : Means c.args.self.now (layers c.self.inside) =
    subst (λ (v : View). Means v (layers c.self.inside)) c.self.view_is c.self.invariant in
    let some : c.in_ok-outward.field-0.now ≢ Quiet =
    λ e. let quiet = c.is_quiet.ensures.1 (c.in_ok-outward.ensures ∙ e) in let no = c.if-is_quiet.false in cc in
    rw c.copied.ensures
    (outward-is c.args.self.now (layers c.self.inside) c.args.block c.in_ok-outward.field-0.now m
    (sym c.is_not_own.ensures ∙ c.if-is_not_own.false) c.in_ok-outward.ensures some)
