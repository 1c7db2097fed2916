use Rattle.std.proofs.Common.{◌≡◌, ◌∙◌, ◌∷◌, ◌++◌, [], List, length, Some, None, ap, sym, arith, slice_index_or, slice_set, rules}
use Rattle.std.specs.List.{remove}
use Rattle.std.proofs.lemmas.List.{get_or_default, get_or-set_same, length-set}
use Rattle.tl_copies.specs.declared.held.Held.{Held}
use Rattle.tl_copies.specs.Held.{is_renewed}
use Rattle.tl_copies.specs.Entries.{Entry, found}
use Rattle.tl_copies.proofs.EntryLaws.{entry}
use Rattle.tl_copies.proofs.PlaceLaws.{found-place, remove-set, kept-new, kept-granted, kept-same}
use Rattle.tl_copies.proofs.table.Table.keep.Goals as goal
use Rattle.tl_copies.proofs.table.Table.keep.Goals.{then-granted, else-granted}

pub returns-in_default-clause-after : goal.returns-in_default-clause-after
returns-in_default-clause-after c = c.note_last.ensures ∙ c.add.ensures ∙ sym (kept-new c.args.block c.args.held c.args.self.now c.in_default.ensures)

pub renew-requires : goal.renew-requires
renew-requires c =
    let new : Entry = entry c.args.block c.args.held in
    omega (
      arith,
      c.in-Some.ensures.inside,
      ap (λ (es : List Entry). length es) (c.write.ensures new),
      length-set c.args.self.now c.in-Some.place (entry (slice_index_or c.args.self.now c.in-Some.place new).block c.args.held),
    )

pub returns-clause-after : goal.returns-clause-after
returns-clause-after c =
    let es : List Entry = c.args.self.now in
    let place = c.in-Some.place in
    let is = c.in-Some.ensures in
    let new : Entry = entry c.args.block c.args.held in
    let old : Entry = slice_index_or es place new in
    let itself : old ≡ slice_index_or es place old = get_or_default es place new old is.inside in
    let written : c.write.new.self ≡ slice_set es place new =
    c.write.ensures new ∙ ap (λ b. slice_set es place (entry b c.args.held)) (is.here new) in
    let renewed : is_renewed old.held c.args.held ≡ c.is_granted_as-granted.result =
    ap (λ (h : Held). is_renewed h c.args.held) (sym (c.held.ensures new)) ∙ sym c.is_granted_as-granted.ensures in
    elim c.if-granted.branch [
      | then-granted w ↦
          w.self-is
          ∙ w.note_last-then-granted.ensures
          ∙ w.renew.ensures new
          ∙ ap (λ (xs : List Entry). remove xs place ++ slice_index_or xs place new ∷ []) written
          ∙ rw (remove-set es place new is.inside, get_or-set_same es place new new is.inside)
          (sym (kept-granted c.args.block c.args.held es place old is itself (renewed ∙ w.if-granted.true)))
      | else-granted w ↦
          w.self-is ∙ written ∙ sym (kept-same c.args.block c.args.held es place old is itself (renewed ∙ w.if-granted.false))
    ]

pub returns-clause-full : goal.returns-clause-full
returns-clause-full c =
    let new : Entry = entry c.args.block c.args.held in
    let is : found c.args.block c.args.self.now ≡ Some (slice_index_or c.args.self.now c.in-Some.place new).held =
    found-place c.args.block c.args.self.now c.in-Some.place new c.in-Some.ensures in
    (λ h. cc, λ h. let none : found c.args.block c.args.self.now ≡ None = h.0 in cc)

pub returns-in_default-clause-full : goal.returns-in_default-clause-full
returns-in_default-clause-full c = search rules
