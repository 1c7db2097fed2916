use Rattle.std.proofs.Common.{◌≡◌, ◌<◌, length, sym, ◌∙◌, subst}
use Rattle.tl_ways.specs.Rows.{Row, tag_in}
use Rattle.std.specs.Prelude.{Some, slice_set}
use Rattle.std.proofs.lemmas.List.{length-set}
use Rattle.tl_ways.proofs.RowLaws.{refill-whole, IsRow-with_entry}
use Rattle.tl_ways.proofs.row.Row.place.Goals as goal

pub invariant_of-self : goal.invariant_of-self
invariant_of-self c =
    let whole = refill-whole c.self.inside.entries.items (slice_set c.self.inside.entries.items c.args.way (Some c.args.entry)) (length-set _ _ _) in
    let inside : c.args.way < length c.self.inside.entries.items = rw (← c.self.view_is) at c.requires.inside in
    rw (c.deref_mut.ensures.value, c.index.ensures, whole)
    (IsRow-with_entry (record { entries = c.self.inside.entries.items; order = c.self.inside.order.items }) c.args.way (Some c.args.entry) c.self.invariant inside
    (λ tag other is apart held. c.requires.alone other apart (subst (λ (r : Row). tag_in r other ≡ Some c.args.entry.tag) c.self.view_is (held ∙ sym is))))
