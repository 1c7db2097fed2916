use Rattle.std.proofs.Common.{rules, ◌≡◌, ℕ, ◌<◌, true, Option, Some, None, refl, subst}
use Rattle.std.specs.Prelude.{IfSome}
use Rattle.tl_copies.specs.Copies.{held_at}
use Rattle.tl_copies.specs.Held.{has_copy}
use Rattle.tl_bank_spec.specs.View.{View}
use Rattle.tl_bank_spec.specs.Views.{HasCopy}
use Rattle.tl_bank_laws.specs.Means.{Means}
use Rattle.tl_bank.specs.Shown.{layers}
use Rattle.tl_bank_laws.proofs.Holders.{copy-own, no-copies}
use Rattle.tl_bank.proofs.bank.Bank.oldest_copy.Goals as goal

pub returns-clause-copy : goal.returns-clause-copy
returns-clause-copy c =
    let m : Means c.args.self.now (layers c.self.inside) =
    subst (λ (v : View). Means v (layers c.self.inside)) c.self.view_is c.self.invariant in
    let lt : c.args.client < c.args.self.now.geometry.clients = search rules in
    elim c.oldest.result as (λ (o : Option ℕ).
    IfSome o (λ b. (b < c.self.inside.copies.blocks) × (has_copy (held_at c.self.inside.copies c.args.client b) ≡ true))
    → IfSome o (λ b. HasCopy c.args.self.now c.args.client b)) [
      | None ↦ λ _. tt
      | Some b ↦ λ found. copy-own c.args.self.now (layers c.self.inside) c.args.client b m lt found.0 found.1
    ] c.oldest.ensures.copy

pub returns-clause-none : goal.returns-clause-none
returns-clause-none c =
    let m : Means c.args.self.now (layers c.self.inside) =
    subst (λ (v : View). Means v (layers c.self.inside)) c.self.view_is c.self.invariant in
    let lt : c.args.client < c.args.self.now.geometry.clients = search rules in (
      (λ none b. no-copies c.args.self.now (layers c.self.inside) c.args.client b m (c.oldest.ensures.none none b)),
      (λ nowhere.
          elim c.oldest.result as (λ (o : Option ℕ).
          IfSome o (λ b. (b < c.self.inside.copies.blocks) × (has_copy (held_at c.self.inside.copies c.args.client b) ≡ true))
          → o ≡ None) [
            | None ↦ λ _. refl
            | Some b ↦ λ found. absurd (nowhere b (copy-own c.args.self.now (layers c.self.inside) c.args.client b m lt found.0 found.1))
          ] c.oldest.ensures.copy),
    )
