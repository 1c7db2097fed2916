use Rattle.std.proofs.Common.{◌≡◌, ◌+◌, List, Some, get_or, length, slice_get, sym, subst, ap, ◌∙◌, arith}
use Rattle.std.proofs.lemmas.Option.{slice_get-get_or, slice_get_within}
use Rattle.tlwire_search.specs.Explained.{wire_of}
use Rattle.tlwire_search.specs.Lists.{number_of}
use Rattle.tlwire_search.specs.declared.seen.Seen.{Seen}
use Rattle.tlwire_search.specs.declared.seen.Wire.{Wire}
use Rattle.tlwire_search.proofs.Listing.{passed_on}
use Rattle.tlwire_search.proofs.wires.Wires.first_on.Goals as goal

pub loop-place-init : goal.loop-place-init
loop-place-init c = record {
  on = omega arith;
  within = c.requires;
  passed = λ place s from before at on. absurd (omega arith);
}

pub returns-then-number-wire : goal.returns-then-number-wire
returns-then-number-wire c =
    let seen : List Seen = c.args.self.now.seen.now in
    let line : Seen = get_or seen c.loop-place.place c.index-self-place.result in
    let at : slice_get seen c.loop-place.place ≡ Some line = slice_get-get_or seen c.loop-place.place c.index-self-place.result c.loop-place-test.true in
    let on : number_of (wire_of line) ≡ c.args.wire = sym (c.number.ensures.value ∙ ap (λ (w : Wire). number_of w) c.wire.ensures) ∙ c.if-number-wire.true in
    record {
      on = c.loop-place.invariant.on;
      within = c.loop-place.invariant.within;
      there = λ s is. let one : line ≡ s = cc in subst (λ (x : Seen). number_of (wire_of x) ≡ c.args.wire) one on;
      first = c.loop-place.invariant.passed;
    }

pub loop-place-preserved : goal.loop-place-preserved
loop-place-preserved c =
    let seen : List Seen = c.args.self.now.seen.now in
    let line : Seen = get_or seen c.loop-place.place c.index-self-place.result in
    let at : slice_get seen c.loop-place.place ≡ Some line = slice_get-get_or seen c.loop-place.place c.index-self-place.result c.loop-place-test.true in
    record {
      on = omega (arith, c.loop-place.invariant.on);
      within = omega (arith, c.loop-place-test.true);
      passed = passed_on (λ s. number_of (wire_of s) ≡ c.args.wire) seen c.args.from c.loop-place.place (c.loop-place.place + 1) line c.loop-place.invariant.passed at
          (λ on. c.if-number-wire.false (c.number.ensures.value ∙ (ap (λ (w : Wire). number_of w) c.wire.ensures ∙ on)))
          (λ later s behind within is on. absurd (omega arith));
    }

pub returns : goal.returns
returns c =
    let same : c.loop-place.place ≡ length c.args.self.now.seen.now = omega (arith, c.loop-place-test.false, c.loop-place.invariant.within) in
    record {
      on = c.requires;
      within = omega arith;
      there = λ s is. absurd (omega (arith, slice_get_within c.args.self.now.seen.now (length c.args.self.now.seen.now) s is));
      first = λ k s from before at on. c.loop-place.invariant.passed k s from (omega (arith, same)) at on;
    }
