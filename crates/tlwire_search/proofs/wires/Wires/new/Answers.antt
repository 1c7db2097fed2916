use Rattle.std.proofs.Common.{◌≡◌, ◌≤◌, ◌+◌, ◌-◌, ◌*◌, ◌++◌, ◌∷◌, ℕ, List, [], Some, length, get_or, set, slice_get, replicate, sym, subst, ap, ◌∙◌, refl, arith, length-append}
use Rattle.std.proofs.lemmas.List.{length-replicate, length-set}
use Rattle.std.proofs.lemmas.Option.{get_or_from_slice_get, slice_get_read, slice_get_within}
use Rattle.tlwire_search.specs.Explained.{wire_of}
use Rattle.tlwire_search.specs.Lists.{AreOfTheirWires, list_at, number_of}
use Rattle.tlwire_search.specs.declared.seen.Seen.{Seen}
use Rattle.tlwire_search.specs.declared.seen.Wire.{Wire}
use Rattle.tlwire_search.proofs.Listing.{AreWithin, BeginFrom, PassFrom, begun_before, of_no_wire, of_wires_before, passed_before, within_alike, within_set}
use Rattle.tlwire_search.proofs.wires.Wires.new.Goals as goal

pub loop-place-init : goal.loop-place-init
loop-place-init c =
    let none : c.in_ok-in_list.in_list.items ≡ [] = (c.in_ok-in_list.ensures {u = tt}).items in
    let nothing : c.in_ok-on_wire.on_wire.items ≡ [] = (c.in_ok-on_wire.ensures {u = tt}).items in
    let alike : c.in_ok-next.next.items ≡ replicate (2 + c.args.shape.clients * 6) (length c.args.seen.now) =
    (c.in_ok-next.ensures {u = tt}).items_if_clones_equal (λ y e. e) in
    record {
      sized = omega (arith, ap (λ (xs : List ℕ). length xs) none);
      numbered = omega (arith, ap (λ (xs : List ℕ). length xs) nothing);
      wires = ap (λ (xs : List ℕ). length xs) alike ∙ length-replicate (2 + c.args.shape.clients * 6) (length c.args.seen.now);
      ends = subst (λ (xs : List ℕ). AreWithin xs (length c.args.seen.now)) (sym alike) (within_alike (2 + c.args.shape.clients * 6) (length c.args.seen.now));
      of_wires = subst (λ (xs : List ℕ). AreOfTheirWires c.args.seen.now xs) (sym alike) (of_no_wire c.args.seen.now (2 + c.args.shape.clients * 6));
      nexts = λ place s from is. absurd (omega (arith, slice_get_within c.args.seen.now place s is));
      gone_by = λ place later s t from lt is there same. absurd (omega (arith, slice_get_within c.args.seen.now place s is));
      begun = λ place s from is. absurd (omega (arith, slice_get_within c.args.seen.now place s is));
      passed = λ place later s t from lt is there same. absurd (omega (arith, slice_get_within c.args.seen.now place s is));
    }

pub loop-place-preserved : goal.loop-place-preserved
loop-place-preserved c =
    let seen : List Seen = c.args.seen.now in
    let list : Seen → ℕ = list_at c.width_of-width.result c.args.shape.block_bytes in
    let place : ℕ = c.loop-place.place - 1 in
    let line : Seen = c.index-seen-place.result in
    let one : c.loop-place.place ≡ place + 1 = omega (arith, c.loop-place-test.true) in
    let at : slice_get seen place ≡ Some line = slice_get_read seen (length seen) place line refl (omega (arith, c.loop-place-test.true, c.loop-place.invariant.sized)) c.index-seen-place.is in
    let listed : c.list_at.result ≡ list line = c.list_at.ensures in
    let next : c.put_before.new.heads.items ≡ set c.loop-place.next.items (number_of (wire_of line)) place =
    c.put_before.ensures.heads ∙ ap (λ (n : ℕ). set c.loop-place.next.items n place) (c.number.ensures.value ∙ ap (λ (w : Wire). number_of w) c.wire.ensures) in
    let first : c.put_before-in-loop-place.new.heads.items ≡ set c.loop-place.first.items (list line) place =
    c.put_before-in-loop-place.ensures.heads ∙ ap (λ (n : ℕ). set c.loop-place.first.items n place) listed in
    let gap : c.put_before-in-loop-place.result ≤ get_or c.loop-place.first.items (list line) 0 - place - 1 =
    subst (λ (n : ℕ). c.put_before-in-loop-place.result ≤ get_or c.loop-place.first.items n 0 - place - 1) listed c.put_before-in-loop-place.ensures.gap in
    let gaps : c.push-in-loop-place.new.self.items ≡ c.loop-place.in_list.items ++ c.put_before-in-loop-place.result ∷ [] = (c.in_ok-push-2.ensures {u = tt}).items in
    let begun : BeginFrom list seen c.loop-place.first.items (place + 1) = subst (λ (n : ℕ). BeginFrom list seen c.loop-place.first.items n) one c.loop-place.invariant.begun in
    let passed : PassFrom list seen c.loop-place.in_list.items (place + 1) = subst (λ (n : ℕ). PassFrom list seen c.loop-place.in_list.items n) one c.loop-place.invariant.passed in
    let wires : Seen → ℕ = λ s. number_of (wire_of s) in
    let nexts : BeginFrom wires seen c.loop-place.next.items (place + 1) = subst (λ (n : ℕ). BeginFrom wires seen c.loop-place.next.items n) one c.loop-place.invariant.nexts in
    let gone_by : PassFrom wires seen c.loop-place.on_wire.items (place + 1) = subst (λ (n : ℕ). PassFrom wires seen c.loop-place.on_wire.items n) one c.loop-place.invariant.gone_by in
    let on : c.number.result ≡ number_of (wire_of line) = c.number.ensures.value ∙ ap (λ (w : Wire). number_of w) c.wire.ensures in
    let far : c.put_before.result ≤ get_or c.loop-place.next.items (number_of (wire_of line)) 0 - place - 1 =
    subst (λ (n : ℕ). c.put_before.result ≤ get_or c.loop-place.next.items n 0 - place - 1) on c.put_before.ensures.gap in
    let fars : c.push.new.self.items ≡ c.loop-place.on_wire.items ++ c.put_before.result ∷ [] = (c.in_ok-push.ensures {u = tt}).items in
    let further : length c.push.new.self.items ≡ length c.loop-place.on_wire.items + 1 =
    ap (λ (xs : List ℕ). length xs) fars ∙ length-append c.loop-place.on_wire.items (c.put_before.result ∷ []) in
    let longer : length c.push-in-loop-place.new.self.items ≡ length c.loop-place.in_list.items + 1 =
    ap (λ (xs : List ℕ). length xs) gaps ∙ length-append c.loop-place.in_list.items (c.put_before-in-loop-place.result ∷ []) in
    record {
      sized = omega (arith, c.loop-place-test.true, c.loop-place.invariant.sized);
      numbered = omega (arith, c.loop-place-test.true, c.loop-place.invariant.numbered);
      wires = ap (λ (xs : List ℕ). length xs) next ∙ (length-set c.loop-place.next.items (number_of (wire_of line)) place ∙ c.loop-place.invariant.wires);
      ends = subst (λ (xs : List ℕ). AreWithin xs (length seen)) (sym next)
          (within_set c.loop-place.next.items (number_of (wire_of line)) place (length seen) c.loop-place.invariant.ends (omega (arith, c.loop-place-test.true, c.loop-place.invariant.sized)));
      nexts = subst (λ (xs : List ℕ). BeginFrom wires seen xs place) (sym next) (begun_before wires seen c.loop-place.next.items place line at nexts);
      gone_by = subst (λ (xs : List ℕ). PassFrom wires seen xs place) (sym fars)
          (passed_before wires seen c.loop-place.next.items c.loop-place.on_wire.items place c.put_before.result line at (omega (arith, c.loop-place.invariant.numbered)) far nexts gone_by);
      of_wires = subst (λ (xs : List ℕ). AreOfTheirWires seen xs) (sym next) (of_wires_before seen c.loop-place.next.items place line at c.loop-place.invariant.of_wires);
      begun = subst (λ (xs : List ℕ). BeginFrom list seen xs place) (sym first) (begun_before list seen c.loop-place.first.items place line at begun);
      passed = subst (λ (xs : List ℕ). PassFrom list seen xs place) (sym gaps)
          (passed_before list seen c.loop-place.first.items c.loop-place.in_list.items place c.put_before-in-loop-place.result line at (omega (arith, c.loop-place.invariant.sized)) gap begun
          passed);
    }

pub invariant_of-result : goal.invariant_of-result
invariant_of-result c = record {
  divides = c.requires;
  wide = c.width_of-width.ensures;
  on_wires = c.loop-place.invariant.of_wires;
  in_time = λ place from s is next le. c.loop-place.invariant.begun place s (omega (arith, c.loop-place-test.false)) is;
  past_no_other = λ place later s t lt is there same. c.loop-place.invariant.gone_by place later s t (omega (arith, c.loop-place-test.false)) lt is there same;
  past_none = λ place later s t lt is there same. c.loop-place.invariant.passed place later s t (omega (arith, c.loop-place-test.false)) lt is there same;
}

pub returns : goal.returns
returns c = record {
  of_shape = refl;
  of_seen = refl;
  wires = c.loop-place.invariant.wires;
  next = λ wire place is.
      record {
        on = omega arith;
        within = c.loop-place.invariant.ends wire place is;
        there = c.loop-place.invariant.of_wires wire place is;
        first = λ k s from before at same.
            let head : get_or c.loop-place.next.items (number_of (wire_of s)) 0 ≤ k = c.loop-place.invariant.nexts k s (omega (arith, c.loop-place-test.false)) at in
            let here : get_or c.loop-place.next.items wire 0 ≡ place = get_or_from_slice_get c.loop-place.next.items wire place 0 is in
            let low : get_or c.loop-place.next.items wire 0 ≤ k = subst (λ (n : ℕ). get_or c.loop-place.next.items n 0 ≤ k) same head in
            absurd (omega arith);
      };
}
