use Rattle.std.proofs.Common.{◌≡◌, ◌+◌, ◌<◌, ◌-◌, List, length, slice_index_or, slice_set, ◌∙◌, subst, sym, ap, arith}
use Rattle.tl_copies.specs.declared.held.Held.{Held}
use Rattle.tl_copies.specs.declared.table.Key.{Key}
use Rattle.tl_copies.specs.Held.{is_copy}
use Rattle.tl_copies.specs.Entries.{Entry}
use Rattle.tl_copies.specs.Slots.{blank, entries_of, IsSound}
use Rattle.tl_copies.proofs.CountLaws.{one_if}
use Rattle.tl_copies.proofs.SlotLaws.{slot-inside, entry-here, entries-written, copies-written, sound-written, refill-set, key_at, held-read}
use Rattle.tl_copies.proofs.table.Table.write.Goals as goal

pub bounds-deref-slot : goal.bounds-deref-slot
bounds-deref-slot c =
    let k = c.index-deref-place.result in
    let at = key_at c.self.inside.keys.items c.deref.result.now c.self.inside.slots.items c.args.self.now c.args.place k c.self.view_is c.requires
    c.deref.ensures.0 c.index-deref-place.is in
    subst (λ (x : Key). x.slot < length c.deref-2.result.now) c.index-deref-place.is
    (rw c.deref-2.ensures.0 (slot-inside c.self.invariant.0 c.args.place k at))

pub bounds-deref_mut-slot : goal.bounds-deref_mut-slot
bounds-deref_mut-slot c =
    let k = c.index-deref-place.result in
    let at = key_at c.self.inside.keys.items c.deref.result.now c.self.inside.slots.items c.args.self.now c.args.place k c.self.view_is c.requires
    c.deref.ensures.0 c.index-deref-place.is in
    subst (λ (x : Key). x.slot < length c.deref_mut.result.now) c.index-deref-place.is
    (rw c.deref_mut.ensures.value (slot-inside c.self.invariant.0 c.args.place k at))

pub overflow_sub-self : goal.overflow_sub-self
overflow_sub-self c =
    let k = c.index-deref-place.result in
    let at = key_at c.self.inside.keys.items c.deref.result.now c.self.inside.slots.items c.args.self.now c.args.place k c.self.view_is c.requires
    c.deref.ensures.0 c.index-deref-place.is in
    let old = held-read c.self.inside.slots.items c.deref-2.result.now k (slice_index_or c.deref.result.now c.args.place k)
    c.index-deref-slot.result c.deref-2.ensures.0 c.index-deref-place.is c.index-deref-slot.is (slot-inside c.self.invariant.0 c.args.place k at) in
    let fewer : c.copies-2.result ≡ one_if (is_copy (slice_index_or c.self.inside.slots.items k.slot blank)) =
    c.copies-2.ensures ∙ ap (λ (h : Held). one_if (is_copy h)) old in
    let more : c.copies.result ≡ one_if (is_copy c.args.held) = c.copies.ensures in
    let change = copies-written c.self.invariant.0 c.args.place k c.args.held at in
    omega (arith, fewer, change, more)

pub invariant_of-self : goal.invariant_of-self
invariant_of-self c =
    let k = c.index-deref-place.result in
    let at = key_at c.self.inside.keys.items c.deref.result.now c.self.inside.slots.items c.args.self.now c.args.place k c.self.view_is c.requires
    c.deref.ensures.0 c.index-deref-place.is in
    let old = held-read c.self.inside.slots.items c.deref-2.result.now k (slice_index_or c.deref.result.now c.args.place k)
    c.index-deref-slot.result c.deref-2.ensures.0 c.index-deref-place.is c.index-deref-slot.is (slot-inside c.self.invariant.0 c.args.place k at) in
    let fewer : c.copies-2.result ≡ one_if (is_copy (slice_index_or c.self.inside.slots.items k.slot blank)) =
    c.copies-2.ensures ∙ ap (λ (h : Held). one_if (is_copy h)) old in
    let more : c.copies.result ≡ one_if (is_copy c.args.held) = c.copies.ensures in
    let change = copies-written c.self.invariant.0 c.args.place k c.args.held at in
    let slots : List Held = c.self.inside.slots.items in
    let written = refill-set slots c.deref_mut.result.now (slice_index_or c.deref.result.now c.args.place k).slot k.slot c.args.held
    c.deref_mut.ensures.value (ap (λ (x : Key). x.slot) (sym c.index-deref-place.is)) in
    let then = c.self.inside.copies + c.copies.result - c.copies-2.result in (
      subst (λ (held : List Held). IsSound c.self.inside.keys.items held c.self.inside.free.items then) (sym written)
          (sound-written c.self.invariant.0 c.args.place k c.args.held then at (omega (arith, fewer, change, more))),
      c.self.invariant.1,
    )

pub returns : goal.returns
returns c e =
    let k = c.index-deref-place.result in
    let at = key_at c.self.inside.keys.items c.deref.result.now c.self.inside.slots.items c.args.self.now c.args.place k c.self.view_is c.requires
    c.deref.ensures.0 c.index-deref-place.is in
    let slots : List Held = c.self.inside.slots.items in
    let written = refill-set slots c.deref_mut.result.now (slice_index_or c.deref.result.now c.args.place k).slot k.slot c.args.held
    c.deref_mut.ensures.value (ap (λ (x : Key). x.slot) (sym c.index-deref-place.is)) in
    ap (λ (held : List Held). entries_of held c.self.inside.keys.items) written
    ∙ entries-written c.self.invariant.0 c.args.place k c.args.held at
    ∙ ap (λ b. slice_set (entries_of slots c.self.inside.keys.items) c.args.place (record { block = b; held = c.args.held }))
    (ap (λ (x : Entry). x.block) (sym (entry-here c.self.invariant.0 c.args.place k e at)))
    ∙ ap (λ (es : List Entry). slice_set es c.args.place (record { block = (slice_index_or es c.args.place e).block; held = c.args.held }))
    c.self.view_is
