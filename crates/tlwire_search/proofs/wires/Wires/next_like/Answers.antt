use Rattle.std.proofs.Common.{◌≡◌, ◌<◌, ◌≤◌, ◌+◌, ℕ, Some, length, get_or, slice_get, slice_index, sym, subst, ap, ◌∙◌, arith}
use Rattle.std.proofs.lemmas.Option.{slice_get-get_or, slice_get_within}
use Rattle.tlwire_search.specs.Explained.{wire_of}
use Rattle.tlwire_search.specs.Lists.{list_at, list_of, number_of}
use Rattle.tlwire_search.specs.Sought.{IsLike}
use Rattle.tlwire_search.specs.declared.seen.Seen.{Seen}
use Rattle.tlwire_search.specs.declared.seen.Wire.{Wire}
use Rattle.tlwire_search.proofs.Listing.{list_like, passed_on}
use Rattle.tlwire_search.proofs.wires.Wires.next_like.Goals as goal

pub loop-place-preserved-then-list_at-list : goal.loop-place-preserved-then-list_at-list
loop-place-preserved-then-list_at-list c =
    let line : Seen = get_or c.args.self.now.seen.now c.loop-place.place c.index-self-place.result in
    let at : slice_get c.args.self.now.seen.now c.loop-place.place ≡ Some line =
    slice_get-get_or c.args.self.now.seen.now c.loop-place.place c.index-self-place.result c.loop-place-test.true in
    record {
      unsent = omega (arith, c.loop-place.invariant.unsent, c.behind_in_list-place.ensures.on);
      passed = passed_on (IsLike c.args.self.now.shape.block_bytes c.args.wire c.args.block c.args.sought) c.args.self.now.seen.now c.in_ok-next.next c.loop-place.place
          c.behind_in_list-place.result line c.loop-place.invariant.passed at
          (λ like. let yes = c.is_sought.ensures.1 like in let no = c.if-is_sought.false in cc)
          (λ later s behind within is like. c.behind_in_list-place.ensures.passed later line s behind within at is
          (sym c.list_at.ensures ∙ (c.if-list_at-list.true ∙ (c.list_of-list.ensures ∙ (ap (λ (n : ℕ). list_of c.args.self.now.width c.args.wire n) c.number.ensures
          ∙ sym (list_like c.args.self.now.width c.args.self.now.shape.block_bytes c.args.wire c.args.block c.args.sought s like))))));
    }

pub loop-place-preserved : goal.loop-place-preserved
loop-place-preserved c =
    let line : Seen = get_or c.args.self.now.seen.now c.loop-place.place c.index-self-place.result in
    let at : slice_get c.args.self.now.seen.now c.loop-place.place ≡ Some line =
    slice_get-get_or c.args.self.now.seen.now c.loop-place.place c.index-self-place.result c.loop-place-test.true in
    record {
      unsent = omega (arith, c.loop-place.invariant.unsent);
      passed = passed_on (IsLike c.args.self.now.shape.block_bytes c.args.wire c.args.block c.args.sought) c.args.self.now.seen.now c.in_ok-next.next c.loop-place.place
          (c.loop-place.place + 1) line c.loop-place.invariant.passed at
          (λ like. let yes = c.is_sought.ensures.1 like in let no = c.if-is_sought.false in cc)
          (λ later s behind within is like. absurd (omega arith));
    }

pub returns : goal.returns
returns c = λ place u.
    let same : Some u.next ≡ Some c.in_ok-next.next = sym u.is_next ∙ c.in_ok-next.ensures.next in
    let one : u.next ≡ c.in_ok-next.next = cc in
    let inside : place < length c.args.self.now.seen.now = slice_get_within c.args.self.now.seen.now place u.line u.at in
    c.loop-place.invariant.passed place u.line (omega (arith, u.unsent)) (omega (arith, c.loop-place-test.false)) u.at u.like

pub loop-place-init : goal.loop-place-init
loop-place-init c = record {
  unsent = omega (arith, c.max-place.ensures);
  passed = λ place s from before at like.
      let listed : list_at c.args.self.now.width c.args.self.now.shape.block_bytes s ≡ c.list_of-list.result =
      list_like c.args.self.now.width c.args.self.now.shape.block_bytes c.args.wire c.args.block c.args.sought s like
      ∙ sym (c.list_of-list.ensures ∙ ap (λ (n : ℕ). list_of c.args.self.now.width c.args.wire n) c.number.ensures) in
      let next : slice_get c.args.self.now.next.items (number_of (wire_of s)) ≡ Some c.in_ok-next.next =
      ap (λ (w : Wire). slice_get c.args.self.now.next.items (number_of w)) like.0 ∙ c.in_ok-next.ensures.next in
      let begun : slice_index c.args.self.now.first.items c.list_of-list.result ≤ place =
      subst (λ (n : ℕ). slice_index c.args.self.now.first.items n ≤ place) listed (c.args.self.now.in_time place c.in_ok-next.next s at next from) in
      omega (arith, c.max-place.ensures, c.beginning.ensures);
}

pub returns-then-is_sought : goal.returns-then-is_sought
returns-then-is_sought c = (
  record {
    line = get_or c.args.self.now.seen.now c.loop-place.place c.index-self-place.result;
    next = c.in_ok-next.next;
    at = slice_get-get_or c.args.self.now.seen.now c.loop-place.place c.index-self-place.result c.loop-place-test.true;
    is_next = c.in_ok-next.ensures.next;
    unsent = c.loop-place.invariant.unsent;
    like = c.is_sought.ensures.0 c.if-is_sought.true;
  },
  λ earlier before u.
      let same : Some u.next ≡ Some c.in_ok-next.next = sym u.is_next ∙ c.in_ok-next.ensures.next in
      let one : u.next ≡ c.in_ok-next.next = cc in
      c.loop-place.invariant.passed earlier u.line (omega (arith, u.unsent)) before u.at u.like,
)
