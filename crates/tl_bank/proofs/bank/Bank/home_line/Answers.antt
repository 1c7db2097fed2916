use Rattle.std.proofs.Common.{sym, ◌∙◌, subst}
use Rattle.tl_bank_spec.specs.View.{View}
use Rattle.tl_bank_laws.specs.Means.{Means}
use Rattle.tl_bank.specs.Shown.{layers}
use Rattle.tl_bank.proofs.bank.Bank.home_line.Goals as goal

pub unreachable-requires : goal.unreachable-requires
unreachable-requires c =
    let m : Means c.args.self.now (layers c.self.inside) =
    subst (λ (v : View). Means v (layers c.self.inside)) c.self.view_is c.self.invariant in
    c.requires.held (sym (m.home c.args.block c.requires.own).line ∙ (rw c.in_default.is at c.line.ensures.is))
