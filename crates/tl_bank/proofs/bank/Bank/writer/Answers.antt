use Rattle.std.proofs.Common.{rules, ◌≡◌, ◌<◌, ◌∙◌, sym, subst}
use Rattle.tl_types.specs.declared.permission.Perm.TheVariants.{Tip}
use Rattle.tl_bank_spec.specs.View.{View, perm_at}
use Rattle.tl_bank_laws.specs.Means.{Means}
use Rattle.tl_bank.specs.Shown.{layers}
use Rattle.tl_bank_laws.proofs.Views.{own-is, writer-is, writer-alone}
use Rattle.tl_bank.proofs.bank.Bank.writer.Goals as goal

pub returns-then-eq-clause-writes : goal.returns-then-eq-clause-writes
returns-then-eq-clause-writes c =
    let m : Means c.args.self.now (layers c.self.inside) =
    subst (λ (v : View). Means v (layers c.self.inside)) c.self.view_is c.self.invariant in
    let lt : c.new-client.result < c.args.self.now.geometry.clients = search rules in
    let tip : perm_at c.args.self.now c.new-client.result c.args.block ≡ Tip = search rules in
    writer-is c.args.self.now (layers c.self.inside) c.new-client.result c.args.block m lt
    (own-is c.args.self.now c.args.block (sym c.is_not_own.ensures ∙ c.if-is_not_own.false)) tip

pub returns-then-eq-clause-alone : goal.returns-then-eq-clause-alone
returns-then-eq-clause-alone c =
    let m : Means c.args.self.now (layers c.self.inside) =
    subst (λ (v : View). Means v (layers c.self.inside)) c.self.view_is c.self.invariant in
    let tip : perm_at c.args.self.now c.new-client.result c.args.block ≡ Tip = search rules in
    writer-alone c.args.self.now (layers c.self.inside) c.new-client.result c.args.block m tip
