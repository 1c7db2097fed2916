use Rattle.std.proofs.Common.{◌++◌, ◌∷◌, [], List, slice_index_or, ◌∙◌, refl, ap, arith}
use Rattle.std.specs.List.{remove}
use Rattle.tl_copies.specs.declared.table.Key.{Key}
use Rattle.tl_copies.specs.Entries.{Entry}
use Rattle.tl_copies.specs.Slots.{entries_of}
use Rattle.tl_copies.proofs.SlotLaws.{entries-renewed, sound-renewed, key_at}
use Rattle.tl_copies.proofs.HintLaws.{counted-renewed}
use Rattle.tl_copies.proofs.table.Table.renew.Goals as goal

pub push-requires : goal.push-requires
push-requires c = (omega arith, omega (arith, c.remove-key.ensures.len, c.self.invariant.0.few, c.self.invariant.0.all))

pub invariant_of-self : goal.invariant_of-self
invariant_of-self c =
    let k = c.remove-key.result in
    let at = key_at c.self.inside.keys.items c.self.inside.keys.items c.self.inside.slots.items c.args.self.now c.args.place k c.self.view_is
    c.requires refl c.remove-key.ensures.value in
    rw (c.push.ensures.items, c.remove-key.ensures.items)
    (sound-renewed c.self.invariant.0 c.args.place k at, counted-renewed c.self.invariant.1 c.args.place k at)

pub returns : goal.returns
returns c e =
    let k = c.remove-key.result in
    let at = key_at c.self.inside.keys.items c.self.inside.keys.items c.self.inside.slots.items c.args.self.now c.args.place k c.self.view_is
    c.requires refl c.remove-key.ensures.value in
    ap (λ (keys : List Key). entries_of c.self.inside.slots.items keys)
    (c.push.ensures.items ∙ ap (λ (keys : List Key). keys ++ k ∷ []) c.remove-key.ensures.items)
    ∙ entries-renewed c.self.invariant.0 c.args.place k e at
    ∙ ap (λ (es : List Entry). remove es c.args.place ++ slice_index_or es c.args.place e ∷ []) c.self.view_is
