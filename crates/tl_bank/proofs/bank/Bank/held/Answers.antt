use Rattle.std.proofs.Common.{rules, ◌≡◌, ℕ, ◌+◌, ◌^◌, ◌<◌, sym, ◌∙◌, ap, subst, arith, add-one}
use Rattle.tl_bank_spec.specs.View.{View}
use Rattle.tl_bank_spec.specs.Tables.{copies_at}
use Rattle.tl_bank_spec.specs.Views.{copies_below}
use Rattle.tl_bank_laws.specs.Means.{Means}
use Rattle.tl_bank.specs.Shown.{layers}
use Rattle.tl_bank_laws.proofs.Counts.{copies-few}
use Rattle.tl_bank_laws.proofs.Holders.{held-is}
use Rattle.tl_bank.proofs.bank.Bank.held.Goals as goal

pub loop-number-preserved : goal.loop-number-preserved
loop-number-preserved c =
    let m : Means c.args.self.now (layers c.self.inside) =
    subst (λ (v : View). Means v (layers c.self.inside)) c.self.view_is c.self.invariant in
    let one : c.from-count.result ≡ copies_at c.args.self.now c.loop-number.number =
    c.from-count.ensures ∙ (c.count.ensures ∙ ap (λ (k : ℕ). copies_at c.args.self.now k) c.new.ensures) in
    let few : copies_at c.args.self.now c.loop-number.number < 2 ^ 31 = copies-few c.args.self.now c.loop-number.number m.geometry in
    record {
      value =
          rw add-one
          (ap (λ (n : ℕ). n + c.from-count.result) c.loop-number.invariant.value
          ∙ ap (λ (n : ℕ). copies_below c.args.self.now c.loop-number.number + n) one);
      few = omega (arith, c.loop-number.invariant.few);
    }

pub returns-clause-value : goal.returns-clause-value
returns-clause-value c =
    let m : Means c.args.self.now (layers c.self.inside) =
    subst (λ (v : View). Means v (layers c.self.inside)) c.self.view_is c.self.invariant in
    let shares : c.loop-number.count ≡ copies_below c.args.self.now c.args.self.now.geometry.clients = search rules in
    shares ∙ sym (held-is c.args.self.now (layers c.self.inside) m)
