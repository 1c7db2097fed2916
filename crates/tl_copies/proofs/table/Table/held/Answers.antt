use Rattle.std.proofs.Common.{◌<◌, List, length, slice_index_or, ◌∙◌, subst, sym, ap}
use Rattle.tl_copies.specs.declared.table.Key.{Key}
use Rattle.tl_copies.specs.Entries.{Entry}
use Rattle.tl_copies.proofs.SlotLaws.{slot-inside, entry-here, key_at, held-read}
use Rattle.tl_copies.proofs.table.Table.held.Goals as goal

pub bounds-deref-slot : goal.bounds-deref-slot
bounds-deref-slot c =
    let k = c.index-deref-place.result in
    let at = key_at c.self.inside.keys.items c.deref.result.now c.self.inside.slots.items c.args.self.now c.args.place k c.self.view_is c.requires
    c.deref.ensures.0 c.index-deref-place.is in
    subst (λ (x : Key). x.slot < length c.deref-2.result.now) c.index-deref-place.is
    (rw c.deref-2.ensures.0 (slot-inside c.self.invariant.0 c.args.place k at))

pub returns : goal.returns
returns c e =
    let k = c.index-deref-place.result in
    let at = key_at c.self.inside.keys.items c.deref.result.now c.self.inside.slots.items c.args.self.now c.args.place k c.self.view_is c.requires
    c.deref.ensures.0 c.index-deref-place.is in
    held-read c.self.inside.slots.items c.deref-2.result.now k (slice_index_or c.deref.result.now c.args.place k) c.index-deref-slot.result
    c.deref-2.ensures.0 c.index-deref-place.is c.index-deref-slot.is (slot-inside c.self.invariant.0 c.args.place k at)
    ∙ ap (λ (x : Entry). x.held) (sym (entry-here c.self.invariant.0 c.args.place k e at))
    ∙ ap (λ (es : List Entry). (slice_index_or es c.args.place e).held) c.self.view_is
