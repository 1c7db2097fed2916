use Rattle.std.proofs.Common.{◌≡◌, ◌<◌, ℕ, Bool, true, Option, Some, None, ◌∙◌, sym, ap, refl}
use Rattle.std.specs.Prelude.{IfSome}
use Rattle.std.specs.List.{find}
use Rattle.tl_copies.specs.Copies.{held_at, order_in}
use Rattle.tl_copies.specs.Held.{has_copy}
use Rattle.tl_copies.proofs.CountLaws.{oldest-table}
use Rattle.tl_copies.proofs.FirstLaws.{find-passes, has_copy-inside, oldest-none}
use Rattle.tl_copies.proofs.copies.Copies.oldest.Goals as goal

pub returns-clause-value : goal.returns-clause-value
returns-clause-value c =
    c.oldest.ensures ∙ sym (oldest-table c.args.self.now c.args.client c.table.result.now c.table.ensures.held c.table.ensures.order c.table.ensures.sound)

pub returns-clause-copy : goal.returns-clause-copy
returns-clause-copy c =
    let test : ℕ → Bool = λ b. has_copy (held_at c.args.self.now c.args.client b) in
    let is : c.oldest.result ≡ find test (order_in c.args.self.now c.args.client) =
    c.oldest.ensures ∙ sym (oldest-table c.args.self.now c.args.client c.table.result.now c.table.ensures.held c.table.ensures.order c.table.ensures.sound) in
    elim c.oldest.result as (λ (o : Option ℕ). c.oldest.result ≡ o → IfSome o (λ b. (b < c.args.self.now.blocks) × (test b ≡ true))) [
      | None ↦ λ e. tt
      | Some b ↦ λ e.
          let passes : test b ≡ true = find-passes test (order_in c.args.self.now c.args.client) b (sym is ∙ e) in (
            has_copy-inside c.args.self.now.blocks b c.table.result.now c.table.ensures.sound.apart
                (ap has_copy (sym (c.table.ensures.held b)) ∙ passes),
            passes,
          )
    ] refl

pub returns-clause-none : goal.returns-clause-none
returns-clause-none c none b =
    ap has_copy (c.table.ensures.held b) ∙ oldest-none c.table.result.now (sym c.oldest.ensures ∙ none) b
