use Rattle.std.proofs.Common.{◌<◌, length}
use Rattle.std.specs.Prelude.{None, slice_set}
use Rattle.std.proofs.lemmas.List.{length-set}
use Rattle.tl_ways.proofs.RowLaws.{refill-whole, IsRow-with_entry}
use Rattle.tl_ways.proofs.row.Row.clear.Goals as goal

pub invariant_of-self : goal.invariant_of-self
invariant_of-self c =
    let whole = refill-whole c.self.inside.entries.items (slice_set c.self.inside.entries.items c.args.way None) (length-set _ _ _) in
    let inside : c.args.way < length c.self.inside.entries.items = rw (← c.self.view_is) at c.requires in
    rw (c.deref_mut.ensures.value, c.index.ensures, whole)
    (IsRow-with_entry (record { entries = c.self.inside.entries.items; order = c.self.inside.order.items }) c.args.way None c.self.invariant inside
    (λ tag other is apart held. cc))
