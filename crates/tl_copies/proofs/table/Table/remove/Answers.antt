use Rattle.std.proofs.Common.{◌≡◌, ◌-◌, List, slice_index_or, ◌∙◌, refl, ap, arith}
use Rattle.std.specs.List.{remove}
use Rattle.tl_copies.specs.declared.held.Held.{Held}
use Rattle.tl_copies.specs.declared.table.Key.{Key}
use Rattle.tl_copies.specs.Held.{is_copy}
use Rattle.tl_copies.specs.Entries.{Entry}
use Rattle.tl_copies.specs.Slots.{blank, entries_of}
use Rattle.tl_copies.proofs.CountLaws.{one_if}
use Rattle.tl_copies.proofs.SlotLaws.{slot-inside, entries-removed, copies-removed, sound-removed, key_at, held-read}
use Rattle.tl_copies.proofs.HintLaws.{counted-removed, counted-some}
use Rattle.tl_copies.proofs.table.Table.remove.Goals as goal

pub bounds-deref-key : goal.bounds-deref-key
bounds-deref-key c =
    let k = c.remove-key.result in
    let at = key_at c.self.inside.keys.items c.self.inside.keys.items c.self.inside.slots.items c.args.self.now c.args.place k c.self.view_is
    c.requires refl c.remove-key.ensures.value in
    rw c.deref.ensures.0 (slot-inside c.self.invariant.0 c.args.place k at)

pub overflow_sub-self : goal.overflow_sub-self
overflow_sub-self c =
    let k = c.remove-key.result in
    let at = key_at c.self.inside.keys.items c.self.inside.keys.items c.self.inside.slots.items c.args.self.now c.args.place k c.self.view_is
    c.requires refl c.remove-key.ensures.value in
    let slots = c.self.inside.slots.items in
    let old = held-read slots c.deref.result.now k k c.index-deref-key.result c.deref.ensures.0 refl c.index-deref-key.is
    (slot-inside c.self.invariant.0 c.args.place k at) in
    let fewer : c.copies.result ≡ one_if (is_copy (slice_index_or slots k.slot blank)) =
    c.copies.ensures ∙ ap (λ (h : Held). one_if (is_copy h)) old in
    let change = copies-removed c.self.invariant.0 c.args.place k at in
    omega (arith, fewer, change)

pub invariant_of-self : goal.invariant_of-self
invariant_of-self c =
    let k = c.remove-key.result in
    let at = key_at c.self.inside.keys.items c.self.inside.keys.items c.self.inside.slots.items c.args.self.now c.args.place k c.self.view_is
    c.requires refl c.remove-key.ensures.value in
    let slots = c.self.inside.slots.items in
    let old = held-read slots c.deref.result.now k k c.index-deref-key.result c.deref.ensures.0 refl c.index-deref-key.is
    (slot-inside c.self.invariant.0 c.args.place k at) in
    let fewer : c.copies.result ≡ one_if (is_copy (slice_index_or slots k.slot blank)) =
    c.copies.ensures ∙ ap (λ (h : Held). one_if (is_copy h)) old in
    let change = copies-removed c.self.invariant.0 c.args.place k at in
    rw (c.remove-key.ensures.items, c.push.ensures.items, c.hint_of.ensures) (
      sound-removed c.self.invariant.0 c.args.place k (c.self.inside.copies - c.copies.result) at (omega (arith, fewer, change)),
      counted-removed c.self.invariant.1 c.args.place k at,
    )

pub overflow_sub-self-2 : goal.overflow_sub-self-2
overflow_sub-self-2 c =
    let k = c.remove-key.result in
    let at = key_at c.self.inside.keys.items c.self.inside.keys.items c.self.inside.slots.items c.args.self.now c.args.place k c.self.view_is
    c.requires refl c.remove-key.ensures.value in
    rw c.hint_of.ensures (counted-some c.self.invariant.1 c.args.place k at)

pub returns : goal.returns
returns c =
    let k = c.remove-key.result in
    let at = key_at c.self.inside.keys.items c.self.inside.keys.items c.self.inside.slots.items c.args.self.now c.args.place k c.self.view_is
    c.requires refl c.remove-key.ensures.value in
    ap (λ (keys : List Key). entries_of c.self.inside.slots.items keys) c.remove-key.ensures.items
    ∙ entries-removed c.self.invariant.0 c.args.place at.inside
    ∙ ap (λ (es : List Entry). remove es c.args.place) c.self.view_is
