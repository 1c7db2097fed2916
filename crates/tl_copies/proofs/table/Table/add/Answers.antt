use Rattle.std.proofs.Common.{◌≡◌, ◌++◌, ◌∷◌, [], List, length, slice_set, ◌∙◌, refl, sym, ap, arith, inl, inr}
use Rattle.std.proofs.lemmas.Bool.{cases_lt}
use Rattle.std.proofs.lemmas.List.{append-nil, length-map}
use Rattle.tl_copies.specs.declared.held.Held.{Held}
use Rattle.tl_copies.specs.declared.table.Key.{Key}
use Rattle.tl_copies.specs.Entries.{Entry}
use Rattle.tl_copies.specs.Slots.{entry_at, entries_of}
use Rattle.tl_copies.proofs.EntryLaws.{entry}
use Rattle.tl_copies.proofs.SlotLaws.{free-inside, entries-taken, sound-taken, entries-added, sound-added, refill-set}
use Rattle.tl_copies.proofs.HintLaws.{counted-added, counted-few}
use Rattle.tl_copies.proofs.table.Table.add.Goals as goal

pub bounds-deref_mut-slot : goal.bounds-deref_mut-slot
bounds-deref_mut-slot c = rw c.deref_mut.ensures.value (free-inside c.self.invariant.0 c.pop.new.self.items c.in-Some.slot c.in-Some.ensures.items)

pub overflow_add-self-2 : goal.overflow_add-self-2
overflow_add-self-2 c =
    let long = length-map c.self.inside.keys.items (λ (key : Key). entry_at c.self.inside.slots.items key) in
    let shown : length (entries_of c.self.inside.slots.items c.self.inside.keys.items) ≡ length c.args.self.now =
    ap (λ (es : List Entry). length es) c.self.view_is in
    rw c.hint_of.ensures (omega (arith, counted-few c.self.invariant.1 c.args.block, c.requires, long, shown))

pub invariant_of-self : goal.invariant_of-self
invariant_of-self c =
    let written = refill-set c.self.inside.slots.items c.deref_mut.result.now c.in-Some.slot c.in-Some.slot c.args.held c.deref_mut.ensures.value refl in
    rw (c.push.ensures.items, written, c.copies.ensures, c.hint_of.ensures) (
      sound-taken c.self.invariant.0 c.pop.new.self.items c.in-Some.slot c.in-Some.ensures.items c.args.block c.args.held,
      counted-added c.self.invariant.1 (record { block = c.args.block; slot = c.in-Some.slot }),
    )

pub invariant_of-self-in_default : goal.invariant_of-self-in_default
invariant_of-self-in_default c =
    let long = length-map c.self.inside.keys.items (λ (key : Key). entry_at c.self.inside.slots.items key) in
    let shown : length (entries_of c.self.inside.slots.items c.self.inside.keys.items) ≡ length c.args.self.now =
    ap (λ (es : List Entry). length es) c.self.view_is in
    let none : length c.self.inside.free.items ≡ 0 =
    elim (cases_lt 0 (length c.self.inside.free.items)) [ inl some ↦ (let no = c.in_default.ensures.variant.1 some in cc) | inr none ↦ omega arith ] in
    let free : c.pop.new.self.items ≡ c.self.inside.free.items = sym (c.in_default.ensures.items ∙ append-nil c.pop.new.self.items) in
    rw (c.push-in_default-2.ensures.items, c.push-in_default.ensures.items, c.len-slot.ensures.value, c.copies.ensures, free, c.hint_of.ensures) (
      sound-added c.self.invariant.0 c.args.block c.args.held (omega (arith, none, c.requires, c.self.invariant.0.all, long, shown)),
      counted-added c.self.invariant.1 (record { block = c.args.block; slot = length c.self.inside.slots.items }),
    )

pub returns-in-Some : goal.returns-in-Some
returns-in-Some c =
    let slots : List Held = c.self.inside.slots.items in
    let written = refill-set slots c.deref_mut.result.now c.in-Some.slot c.in-Some.slot c.args.held c.deref_mut.ensures.value refl in
    ap (λ (held : List Held). entries_of held c.push.new.self.items) written
    ∙ ap (λ (keys : List Key). entries_of (slice_set slots c.in-Some.slot c.args.held) keys) c.push.ensures.items
    ∙ entries-taken c.self.invariant.0 c.pop.new.self.items c.in-Some.slot c.in-Some.ensures.items c.args.block c.args.held
    ∙ ap (λ (es : List Entry). es ++ entry c.args.block c.args.held ∷ []) c.self.view_is

pub returns-in_default : goal.returns-in_default
returns-in_default c =
    ap (λ (keys : List Key). entries_of c.push-in_default.new.self.items keys) c.push-in_default-2.ensures.items
    ∙ rw (c.push-in_default.ensures.items, c.len-slot.ensures.value) (entries-added c.self.invariant.0 c.args.block c.args.held)
    ∙ ap (λ (es : List Entry). es ++ entry c.args.block c.args.held ∷ []) c.self.view_is
