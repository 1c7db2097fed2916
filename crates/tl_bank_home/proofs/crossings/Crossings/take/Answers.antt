use Rattle.std.proofs.Common.{◌≡◌, ◌∙◌, ◌+◌, ◌≤◌, List, length, ap, sym, subst, arith}
use Rattle.std.specs.Prelude.{remove}
use Rattle.tl_bank_home.specs.declared.crossings.Crossing.{Crossing}
use Rattle.tl_bank_home.specs.Crossings.{AreApart, outward_of, without_crossing, IsPlace}
use Rattle.tl_bank_home.proofs.CrossingLaws.{passes-at, AreApart-removed, remove-place, outward_of-place, outward_of-without, outward_of-quiet, length-without}
use Rattle.tl_bank_home.proofs.crossings.Crossings.take.Goals as goal

-- what is left
rest : (c : goal.After-remove-outward) → c.remove-outward.new.self.items ≡ without_crossing c.args.block c.args.self.now
rest c =
    c.remove-outward.ensures.items
    ∙ ap (λ (list : List Crossing). remove list c.in-Some.place) c.self.view_is
    ∙ remove-place c.args.block c.args.self.now c.in-Some.place c.in-Some.ensures

-- it has one entry fewer than before
one_less : (c : goal.After-remove-outward) → length c.remove-outward.new.self.items + 1 ≡ length c.args.self.now
one_less c =
    ap (λ (list : List Crossing). length list + 1) (rest c)
    ∙ length-without c.args.block c.args.self.now
    (passes-at c.args.block c.args.self.now c.in-Some.place c.in-Some.ensures
    (subst (λ (list : List Crossing). AreApart list) c.self.view_is c.self.invariant.apart))

-- before, it had at most eight
few_before : (c : goal.After-remove-outward) → length c.args.self.now ≤ 8
few_before c = subst (λ (list : List Crossing). length list ≤ 8) c.self.view_is c.self.invariant.few

-- and what is left has at most eight
fewer : (c : goal.After-remove-outward) → length c.remove-outward.new.self.items ≤ 8
fewer c = let one = one_less c in let few = few_before c in omega (arith, one, few)

pub invariant_of-self : goal.invariant_of-self
invariant_of-self c =
    let place : IsPlace c.args.block c.self.inside.list.items c.in-Some.place =
    subst (λ (list : List Crossing). IsPlace c.args.block list c.in-Some.place) (sym c.self.view_is) c.in-Some.ensures in
    record {
      apart = rw c.remove-outward.ensures.items (AreApart-removed c.args.block c.self.inside.list.items c.in-Some.place place c.self.invariant.apart);
      few = fewer c;
    }

pub returns-in-Some-clause-taken : goal.returns-in-Some-clause-taken
returns-in-Some-clause-taken c =
    ap (λ (x : Crossing). x.outward) c.remove-outward.ensures.value
    ∙ sym (outward_of-place c.args.block c.self.inside.list.items c.in-Some.place c.remove-outward.result
    (subst (λ (list : List Crossing). IsPlace c.args.block list c.in-Some.place) (sym c.self.view_is) c.in-Some.ensures))
    ∙ ap (λ (list : List Crossing). outward_of c.args.block list) c.self.view_is

pub returns-in-Some-clause-outward : goal.returns-in-Some-clause-outward
returns-in-Some-clause-outward c = λ b.
    ap (λ (list : List Crossing). outward_of b list) (rest c)
    ∙ outward_of-without c.args.block c.args.self.now (subst (λ (list : List Crossing). AreApart list) c.self.view_is c.self.invariant.apart) b

pub returns-in-Some-clause-count : goal.returns-in-Some-clause-count
returns-in-Some-clause-count c = λ passes. one_less c

pub returns-in-Some-clause-unchanged : goal.returns-in-Some-clause-unchanged
returns-in-Some-clause-unchanged c = λ quiet.
    absurd (passes-at c.args.block c.args.self.now c.in-Some.place c.in-Some.ensures
    (subst (λ (list : List Crossing). AreApart list) c.self.view_is c.self.invariant.apart) quiet)

pub returns-in-None-clause-outward : goal.returns-in-None-clause-outward
returns-in-None-clause-outward c = outward_of-quiet c.args.block c.args.self.now c.in-None.ensures

pub returns-in-Some-clause-room : goal.returns-in-Some-clause-room
returns-in-Some-clause-room c = λ passes. let one = one_less c in let few = few_before c in omega (arith, one, few)
