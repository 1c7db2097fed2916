use Rattle.std.proofs.Common.{◌∙◌, ap, slice_index_or, slice_set}
use Rattle.tl_copies.specs.declared.held.Held.{Held}
use Rattle.tl_copies.specs.Held.{stored}
use Rattle.tl_copies.specs.Slots.{blank}
use Rattle.tl_copies.specs.Entries.{Entry}
use Rattle.tl_copies.proofs.EntryLaws.{entry}
use Rattle.tl_copies.proofs.PlaceLaws.{found-place, set-place}
use Rattle.tl_copies.proofs.table.Table.store.Goals as goal

pub returns-in-Some : goal.returns-in-Some
returns-in-Some c =
    let d : Entry = entry c.args.block blank in
    let is = c.in-Some.ensures in
    let new : Held = stored c.args.offset c.args.access.now (slice_index_or c.args.self.now c.in-Some.place d).held in
    rw (found-place c.args.block c.args.self.now c.in-Some.place d is)
    (c.store_at.ensures d
    ∙ ap (λ b. slice_set c.args.self.now c.in-Some.place (entry b new)) (is.here d)
    ∙ set-place c.args.block new c.args.self.now c.in-Some.place is)
