use Rattle.std.proofs.Common.{rules, ◌≡◌, ◌==◌, ℕ, List, length, if◌then◌else◌, arith, sym, ◌∙◌, ap, subst}
use Rattle.std.specs.List.{refill}
use Rattle.std.specs.List.Sorted.{IsNonDecreasing, IsPermutation}
use Rattle.std.proofs.lemmas.Grind.{common_steps}
use Rattle.std.proofs.lemmas.List.Sorted.{IsNonDecreasingBy-from_sort_by_key, sum_by-IsPermutation}
use Rattle.std.specs.Prelude.{All}
use Rattle.tl_bank_spec.specs.View.{View}
use Rattle.tl_bank_spec.specs.Own.{IsOwn}
use Rattle.tl_bank_laws.specs.Means.{Means}
use Rattle.tl_bank.specs.Shown.{layers}
use Rattle.tl_bank_laws.proofs.AtHome.{at_home-is, all-own}
use Rattle.tl_bank.proofs.bank.Bank.blocks_at_home.Goals as goal

-- as many elements take the place of all
refilled : (xs ws : List ℕ) → length ws ≡ length xs → refill (length xs) xs ws ≡ ws
refilled xs ws same = grind (arith, common_steps)

pub returns-clause-is : goal.returns-clause-is
returns-clause-is c =
    let found : List ℕ = c.blocks_by_way-blocks.result.items in
    let sorted : List ℕ = c.sort_unstable_by_key.new.self in
    let up : IsNonDecreasing sorted =
    IsNonDecreasingBy-from_sort_by_key (λ x. x) sorted c.sort_unstable_by_key.ensures.sorted (λ a r q k. search rules) in
    let same : refill (length found) found sorted ≡ sorted =
    refilled found sorted (c.sort_unstable_by_key.ensures.len ∙ ap length c.as_mut_slice.ensures.value) in
    let moved : IsPermutation found sorted =
    subst (λ (xs : List ℕ). IsPermutation xs sorted) c.as_mut_slice.ensures.value c.sort_unstable_by_key.ensures.permutation in
    same
    ∙ at_home-is c.args.self.now sorted up
    (λ b. sum_by-IsPermutation (λ x. if x == b then 1 else 0) found sorted moved ∙ c.blocks_by_way-blocks.ensures b)

pub returns-clause-own : goal.returns-clause-own
returns-clause-own c =
    let v : View = c.args.self.now in
    subst (λ (xs : List ℕ). All (λ b. IsOwn v.geometry v.number b) xs) (sym (returns-clause-is c)) (all-own v)

pub returns-clause-ways : goal.returns-clause-ways
returns-clause-ways c =
    let m : Means c.args.self.now (layers c.self.inside) =
    subst (λ (v : View). Means v (layers c.self.inside)) c.self.view_is c.self.invariant in
    record { holds = m.ways.holds; inside = m.ways.inside; alone = m.ways.once }
