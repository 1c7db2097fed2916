use Rattle.std.proofs.Common.{◌≡◌, ℕ, true, List, [], ◌∷◌, inl, inr, subst}
use Rattle.std.specs.List.{AllByRecursion}
use Rattle.std.proofs.lemmas.Bool.{or_cases}
use Rattle.tl_registers.specs.declared.register.Register.{Register}
use Rattle.tl_registers.specs.Register.{works_on}
use Rattle.tl_registers.specs.Registers.{is_busy}
use Rattle.tl_bank_spec.specs.Own.{IsOwn}
use Rattle.tl_bank_spec.specs.View.{View}
use Rattle.tl_bank_laws.specs.Means.{HoldsWay, Means}
use Rattle.tl_bank.specs.Shown.{layers}
use Rattle.tl_bank.proofs.bank.Bank.registers.Goals as goal

-- registers that hold ways of the bank work on its blocks alone
busy-own : (v : View) (xs : List Register) → AllByRecursion (HoldsWay v) xs → (block : ℕ) → is_busy block xs ≡ true
    → IsOwn v.geometry v.number block
busy-own v [] held block busy = cc
busy-own v (r ∷ rest) held block busy =
    elim (or_cases (works_on r block) (is_busy block rest) busy) [
      | inl on ↦ (held.0.own block on).0
      | inr more ↦ busy-own v rest held.1 block more
    ]

pub returns-clause-agree : goal.returns-clause-agree
returns-clause-agree c =
    let m : Means c.args.self.now (layers c.self.inside) =
    subst (λ (v : View). Means v (layers c.self.inside)) c.self.view_is c.self.invariant in
    m.registers.agree

pub returns-clause-few : goal.returns-clause-few
returns-clause-few c =
    let m : Means c.args.self.now (layers c.self.inside) =
    subst (λ (v : View). Means v (layers c.self.inside)) c.self.view_is c.self.invariant in
    m.registers.few

pub returns-clause-own : goal.returns-clause-own
returns-clause-own c =
    let m : Means c.args.self.now (layers c.self.inside) =
    subst (λ (v : View). Means v (layers c.self.inside)) c.self.view_is c.self.invariant in
    busy-own c.args.self.now c.args.self.now.registers m.ways.held
