use Rattle.std.proofs.Common.{◌++◌, ◌∷◌, [], List, Option, take, IfSome, sym, subst, ap, ◌∙◌, rules, arith}
use Rattle.tlwire_search.proofs.Marking.{here_is}
use Rattle.tlwire_search.specs.declared.seen.Seen.{Seen}
use Rattle.tlwire_pins.proofs.Walk.{Walked, is_impossible_at, take_one, walked_more}
use Rattle.tlwire_pins.specs.Judged.{EachMay, held_in}
use Rattle.tlwire_pins.specs.View.{MayLine, before_line}
use Rattle.tlwire_pins.specs.Walk.{BreaksNext}
use Rattle.tlwire_pins.specs.declared.pass.Wrong.{Wrong}
use Rattle.tlwire_pins.specs.declared.view.View.{View}
use Rattle.tlwire_pins.specs.declared.views.Broken.{Broken}
use Rattle.tlwire_pins.proofs.pass.first_wrong.Goals as goal

pub returns-in-Some-clause-impossible : goal.returns-in-Some-clause-impossible
returns-in-Some-clause-impossible c = λ yes.
    let b : BreaksNext c.args.tap c.args.shape c.args.client c.index-seen-place.result (held_in c.loop-place.views) c.in-Some.broken =
    subst (λ (o : Option Broken). IfSome o (BreaksNext c.args.tap c.args.shape c.args.client c.index-seen-place.result (held_in c.loop-place.views))) c.in-Some.is
    c.in_ok-broken.ensures.broken in
    is_impossible_at c.args.tap c.args.shape c.args.client c.in-Some.broken.block c.loop-place.place c.args.seen.now c.index-seen-place.result
    (here_is c.args.seen.now c.loop-place.place c.index-seen-place.result (omega arith) c.index-seen-place.is) b.own_line
    (subst (λ (v : View). ¬ MayLine c.args.shape v c.index-seen-place.result)
    (b.held ∙ ap (λ (v : View). before_line c.args.tap v c.index-seen-place.result) (c.loop-place.invariant.led c.in-Some.broken.block)) b.may_not)

pub returns-in-Some-clause-first : goal.returns-in-Some-clause-first
returns-in-Some-clause-first c =
    subst (λ (w : Wrong). EachMay c.args.tap c.args.shape c.args.client (take w.place c.args.seen.now)) (sym c.at_place.ensures)
    (λ block. c.loop-place.invariant.may block)

pub loop-place-preserved : goal.loop-place-preserved
loop-place-preserved c =
    subst (λ (xs : List Seen). Walked c.args.tap c.args.shape c.args.client xs (held_in c.step.new.views))
    (ap (λ (z : Seen). take c.loop-place.place c.args.seen.now ++ z ∷ []) c.index-seen-place.is
    ∙ sym (take_one c.args.seen.now c.loop-place.place c.index-seen-place.result (omega arith)))
    (walked_more c.args.tap c.args.shape c.args.client (take c.loop-place.place c.args.seen.now) c.index-seen-place.result (held_in c.loop-place.views)
    (held_in c.step.new.views) c.loop-place.invariant (c.in_ok-broken.ensures.steps (search rules)))
