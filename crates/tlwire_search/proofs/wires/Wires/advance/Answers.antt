use Rattle.std.proofs.Common.{arith, ◌≡◌, ℕ, List, Some, get_or, set, slice_get, sym, subst, ap, ◌∙◌}
use Rattle.std.proofs.lemmas.Option.{slice_get-get_or}
use Rattle.tlwire_search.specs.Lists.{AreOfTheirWires, BeginInTime, IsMovedOn, IsOnWire, list_at, number_of}
use Rattle.tlwire_search.specs.declared.seen.Seen.{Seen}
use Rattle.tlwire_search.proofs.Listing.{begun_on, of_wires_on}
use Rattle.tlwire_search.proofs.wires.Wires.advance.Goals as goal

pub invariant_of-self : goal.invariant_of-self
invariant_of-self c =
    let seen : List Seen = c.args.self.now.seen.now in
    let list : Seen → ℕ = list_at c.args.self.now.width c.args.self.now.shape.block_bytes in
    let wire : ℕ = number_of c.args.wire in
    let place : ℕ = c.in-Some.place in
    let line : Seen = get_or seen place c.index-self-place.result in
    let at : slice_get seen place ≡ Some line = slice_get-get_or seen place c.index-self-place.result c.in-Some.ensures.within in
    let next : c.set.new.numbers.items ≡ set c.args.self.now.next.items wire c.behind_on_wire-next.result =
    c.set.ensures ∙ ap (λ (n : ℕ). set c.args.self.now.next.items n c.behind_on_wire-next.result) c.number.ensures.value in
    let moved : IsMovedOn c.args.self.now.first.items c.move_on.new.heads.items (list line) place c.behind_in_list-behind.result =
    subst (λ (n : ℕ). IsMovedOn c.args.self.now.first.items c.move_on.new.heads.items n place c.behind_in_list-behind.result) c.list_at-list.ensures c.move_on.ensures in
    let there : IsOnWire seen wire c.behind_on_wire-next.result =
    λ t is. c.behind_on_wire-next.ensures.there t is ∙ c.args.self.now.on_wires wire place c.in-Some.ensures.next line at in
    record {
      divides = c.args.self.now.divides;
      wide = c.args.self.now.wide;
      on_wires = subst (λ (xs : List ℕ). AreOfTheirWires seen xs) (sym next)
          (of_wires_on seen c.args.self.now.next.items wire c.behind_on_wire-next.result c.args.self.now.on_wires there);
      in_time = subst (λ (xs : List ℕ). BeginInTime list seen xs c.move_on.new.heads.items) (sym next)
          (begun_on list seen c.args.self.now.next.items c.args.self.now.first.items c.move_on.new.heads.items wire place c.behind_on_wire-next.result
          c.behind_in_list-behind.result line c.args.self.now.on_wires c.args.self.now.in_time c.in-Some.ensures.next at (omega (arith, c.behind_on_wire-next.ensures.on))
          (λ later t behind within is. c.behind_in_list-behind.ensures.passed later line t behind within at is) moved);
      past_none = c.args.self.now.past_none;
      past_no_other = c.args.self.now.past_no_other;
    }
