use Rattle.std.proofs.Common.{◌≡◌, List, None, slice_index_or, ◌∙◌, sym, ap, subst, arith, eqb-true}
use Rattle.tl_copies.specs.declared.table.Key.{Key}
use Rattle.tl_copies.specs.Entries.{Entry, found, IsPlace}
use Rattle.tl_copies.specs.Slots.{entries_of}
use Rattle.tl_copies.proofs.SlotLaws.{place-found, none-found}
use Rattle.tl_copies.proofs.table.Table.search.Goals as goal

pub returns-then-eq : goal.returns-then-eq
returns-then-eq c =
    let slots = c.self.inside.slots.items in
    let shown = c.as_slice-keys.result.now in
    let here =
    eqb-true (slice_index_or shown c.loop-place.place c.index-keys-place.result).block c.args.block (sym c.eq.ensures ∙ c.if-eq.true) in
    subst (λ (es : List Entry). IsPlace c.args.block es c.loop-place.place) c.self.view_is
    (subst (λ (keys : List Key). IsPlace c.args.block (entries_of slots keys) c.loop-place.place) c.as_slice-keys.ensures.value
    (place-found slots shown c.args.block c.loop-place.place c.index-keys-place.result
    (record { inside = c.loop-place-test.true; key = c.index-keys-place.is })
    (ap (λ (key : Key). key.block) c.index-keys-place.is ∙ here) c.loop-place.invariant))

pub returns : goal.returns
returns c =
    let slots = c.self.inside.slots.items in
    let shown = c.as_slice-keys.result.now in
    subst (λ (es : List Entry). found c.args.block es ≡ None) c.self.view_is
    (subst (λ (keys : List Key). found c.args.block (entries_of slots keys) ≡ None) c.as_slice-keys.ensures.value
    (none-found slots shown c.args.block (λ i d h. c.loop-place.invariant i d (omega (arith, h, c.loop-place-test.false)))))
