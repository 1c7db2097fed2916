use Rattle.std.proofs.Common.{rules, ◌≡◌, ◌∙◌, ℕ, List, length, arith, ap, subst}
use Rattle.std.specs.List.{refill}
use Rattle.std.specs.List.Sorted.{IsNonDecreasing}
use Rattle.std.proofs.lemmas.Grind.{common_steps}
use Rattle.std.proofs.lemmas.List.Sorted.{IsNonDecreasingBy-from_sort_by_key}
use Rattle.tl_bank_spec.specs.View.{View}
use Rattle.tl_bank_laws.specs.Means.{Means}
use Rattle.tl_bank.specs.Shown.{layers}
use Rattle.tl_bank.proofs.bank.Bank.open_blocks.Goals as goal

-- as many elements take the place of all
refilled : (xs ws : List ℕ) → length ws ≡ length xs → refill (length xs) xs ws ≡ ws
refilled xs ws same = grind (arith, common_steps)

pub returns-clause-rising : goal.returns-clause-rising
returns-clause-rising c =
    let sorted : List ℕ = c.sort_unstable_by_key.new.self in
    let up : IsNonDecreasing sorted =
    IsNonDecreasingBy-from_sort_by_key (λ x. x) sorted c.sort_unstable_by_key.ensures.sorted (λ a r q k. search rules) in
    let same = refilled c.blocks_by_age-blocks.result.items sorted
    (c.sort_unstable_by_key.ensures.len ∙ ap length c.as_mut_slice.ensures.value) in
    rw same up

pub returns-clause-serves : goal.returns-clause-serves
returns-clause-serves c =
    let m : Means c.args.self.now (layers c.self.inside) =
    subst (λ (v : View). Means v (layers c.self.inside)) c.self.view_is c.self.invariant in
    m.accepted
