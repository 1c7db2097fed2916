use Rattle.std.proofs.Common.{◌≡◌, ◌+◌, ◌<◌, List, Some, length, slice_index_or, slice_set, ◌∙◌, subst, sym, ap}
use Rattle.tl_copies.specs.declared.held.Held.{Held}
use Rattle.tl_copies.specs.declared.table.Key.{Key}
use Rattle.tl_copies.specs.Held.{is_copy, waiting}
use Rattle.tl_copies.specs.Entries.{Entry}
use Rattle.tl_copies.specs.Slots.{blank, entries_of, IsSound}
use Rattle.tl_copies.proofs.CountLaws.{one_if}
use Rattle.tl_copies.proofs.EntryLaws.{entry}
use Rattle.tl_copies.proofs.SlotLaws.{slot-inside, entry-here, entries-written, sound-written, refill-set, key_at, held-read}
use Rattle.tl_copies.proofs.table.Table.wait_at.Goals as goal

pub bounds-deref_mut-slot : goal.bounds-deref_mut-slot
bounds-deref_mut-slot c =
    let k = c.index-deref-place.result in
    let at = key_at c.self.inside.keys.items c.deref.result.now c.self.inside.slots.items c.args.self.now c.args.place k c.self.view_is
    c.requires c.deref.ensures.0 c.index-deref-place.is in
    subst (λ (x : Key). x.slot < length c.deref_mut.result.now) c.index-deref-place.is
    (rw c.deref_mut.ensures.value (slot-inside c.self.invariant.0 c.args.place k at))

pub invariant_of-self : goal.invariant_of-self
invariant_of-self c =
    let k = c.index-deref-place.result in
    let at = key_at c.self.inside.keys.items c.deref.result.now c.self.inside.slots.items c.args.self.now c.args.place k c.self.view_is
    c.requires c.deref.ensures.0 c.index-deref-place.is in
    let slots : List Held = c.self.inside.slots.items in
    let old = held-read slots c.deref_mut.result.now k (slice_index_or c.deref.result.now c.args.place k) c.index-deref_mut-slot.result
    c.deref_mut.ensures.value c.index-deref-place.is c.index-deref_mut-slot.is (slot-inside c.self.invariant.0 c.args.place k at) in
    let new : c.wait_for.new.self ≡ waiting c.args.wait (Some (slice_index_or slots k.slot blank)) =
    c.wait_for.ensures ∙ ap (λ (h : Held). waiting c.args.wait (Some h)) (sym c.index-deref_mut-slot.is ∙ old) in
    let written = refill-set slots c.deref_mut.result.now (slice_index_or c.deref.result.now c.args.place k).slot k.slot c.wait_for.new.self
    c.deref_mut.ensures.value (ap (λ (x : Key). x.slot) (sym c.index-deref-place.is)) in (
      subst (λ (held : List Held). IsSound c.self.inside.keys.items held c.self.inside.free.items c.self.inside.copies) (sym written)
          (sound-written c.self.invariant.0 c.args.place k c.wait_for.new.self c.self.inside.copies at
          (ap (λ (h : Held). c.self.inside.copies + one_if (is_copy h)) (sym new))),
      c.self.invariant.1,
    )

pub returns : goal.returns
returns c e =
    let k = c.index-deref-place.result in
    let at = key_at c.self.inside.keys.items c.deref.result.now c.self.inside.slots.items c.args.self.now c.args.place k c.self.view_is
    c.requires c.deref.ensures.0 c.index-deref-place.is in
    let slots : List Held = c.self.inside.slots.items in
    let old = held-read slots c.deref_mut.result.now k (slice_index_or c.deref.result.now c.args.place k) c.index-deref_mut-slot.result
    c.deref_mut.ensures.value c.index-deref-place.is c.index-deref_mut-slot.is (slot-inside c.self.invariant.0 c.args.place k at) in
    let new : c.wait_for.new.self ≡ waiting c.args.wait (Some (slice_index_or slots k.slot blank)) =
    c.wait_for.ensures ∙ ap (λ (h : Held). waiting c.args.wait (Some h)) (sym c.index-deref_mut-slot.is ∙ old) in
    let written = refill-set slots c.deref_mut.result.now (slice_index_or c.deref.result.now c.args.place k).slot k.slot c.wait_for.new.self
    c.deref_mut.ensures.value (ap (λ (x : Key). x.slot) (sym c.index-deref-place.is)) in
    let there = entry-here c.self.invariant.0 c.args.place k e at in
    ap (λ (held : List Held). entries_of held c.self.inside.keys.items) written
    ∙ entries-written c.self.invariant.0 c.args.place k c.wait_for.new.self at
    ∙ ap (λ (h : Held). slice_set (entries_of slots c.self.inside.keys.items) c.args.place (entry k.block h)) new
    ∙ ap (λ (x : Entry). slice_set (entries_of slots c.self.inside.keys.items) c.args.place (entry x.block (waiting c.args.wait (Some x.held))))
    (sym there)
    ∙ ap (λ (es : List Entry). slice_set es c.args.place (entry (slice_index_or es c.args.place e).block
    (waiting c.args.wait (Some (slice_index_or es c.args.place e).held)))) c.self.view_is
