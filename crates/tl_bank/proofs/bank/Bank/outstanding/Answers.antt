use Rattle.std.proofs.Common.{◌≡◌, ℕ, ◌≤◌, List, take, get_or, length, sym, ◌∙◌, ap, subst, arith}
use Rattle.std.specs.Prelude.{All, sum_by}
use Rattle.std.proofs.lemmas.Grind.{common_steps}
use Rattle.std.proofs.lemmas.List.Sums.{sum_by_more}
use Rattle.tl_bank_spec.specs.View.{View}
use Rattle.tl_bank_spec.specs.Own.{IsOwn}
use Rattle.tl_bank_laws.specs.Means.{Means}
use Rattle.tl_bank.specs.Shown.{layers}
use Rattle.tl_bank_laws.proofs.AtHome.{recorders, recorded-at_home}
use Rattle.tl_bank_laws.proofs.Quiet.{ledger-is, ledger-quiet}
use Rattle.tl_bank.proofs.bank.Bank.outstanding.Goals as goal

-- a list up to its length is all of it
whole : (xs : List ℕ) (i : ℕ) → length xs ≤ i → take i xs ≡ xs
whole xs i l = grind (arith, common_steps)

pub sharers-requires : goal.sharers-requires
sharers-requires c =
    let v : View = c.args.self.now in
    let all : All (λ b. IsOwn v.geometry v.number b) c.as_slice-block-items.result.now =
    subst (λ (xs : List ℕ). All (λ b. IsOwn v.geometry v.number b) xs) (sym c.as_slice-block-items.ensures.value) c.blocks_at_home.ensures.own in
    subst (λ (b : ℕ). IsOwn v.geometry v.number b) (sym c.block-item.is)
    (all c.loop-block.block-index c.block-item.result c.loop-block-test.true)

pub loop-block-preserved : goal.loop-block-preserved
loop-block-preserved c =
    let v : View = c.args.self.now in
    let more = sum_by_more (recorders v) c.as_slice-block-items.result.now c.loop-block.block-index c.block-item.result c.loop-block-test.true in
    let at : recorders v (get_or c.as_slice-block-items.result.now c.loop-block.block-index c.block-item.result) ≡ c.from-count.result =
    ap (recorders v) (sym c.block-item.is) ∙ sym c.sharers.ensures.value ∙ sym c.from-count.ensures in
    record {
      value = omega (arith, c.loop-block.invariant.value, more, at);
      few = omega (arith, c.loop-block.invariant.few, c.sharers.ensures.few, c.from-count.ensures);
    }

pub returns-clause-value : goal.returns-clause-value
returns-clause-value c =
    let v : View = c.args.self.now in
    let m : Means v (layers c.self.inside) =
    subst (λ (v : View). Means v (layers c.self.inside)) c.self.view_is c.self.invariant in
    c.loop-block.invariant.value
    ∙ ap (λ (xs : List ℕ). sum_by (recorders v) xs)
    (whole c.as_slice-block-items.result.now c.loop-block.block-index c.loop-block-test.false
    ∙ c.as_slice-block-items.ensures.value ∙ c.blocks_at_home.ensures.is)
    ∙ recorded-at_home v (layers c.self.inside) v.geometry.memory_blocks m

pub returns-clause-ledger : goal.returns-clause-ledger
returns-clause-ledger c =
    let m : Means c.args.self.now (layers c.self.inside) =
    subst (λ (v : View). Means v (layers c.self.inside)) c.self.view_is c.self.invariant in
    returns-clause-value c ∙ ledger-is c.args.self.now (layers c.self.inside) m

pub returns-clause-quiet : goal.returns-clause-quiet
returns-clause-quiet c quiet =
    let m : Means c.args.self.now (layers c.self.inside) =
    subst (λ (v : View). Means v (layers c.self.inside)) c.self.view_is c.self.invariant in
    returns-clause-value c ∙ ledger-quiet c.args.self.now (layers c.self.inside) m quiet
