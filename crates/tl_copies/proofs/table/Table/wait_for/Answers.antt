use Rattle.std.proofs.Common.{◌≡◌, ◌∙◌, ◌∷◌, ◌++◌, [], List, length, Option, Some, None, ap, sym, arith, slice_index_or, slice_set}
use Rattle.std.specs.List.{remove}
use Rattle.std.proofs.lemmas.List.{get_or_default, get_or-set_same, length-set}
use Rattle.tl_copies.specs.declared.held.Held.{Held}
use Rattle.tl_copies.specs.Held.{is_renewed, waiting}
use Rattle.tl_copies.specs.Entries.{Entry, found, kept}
use Rattle.tl_copies.proofs.EntryLaws.{entry}
use Rattle.tl_copies.proofs.PlaceLaws.{found-place, remove-set, kept-new, kept-granted, kept-same}
use Rattle.tl_copies.proofs.table.Table.wait_for.Goals as goal

pub returns-in_default : goal.returns-in_default
returns-in_default c =
    c.note_last.ensures ∙ c.add.ensures
    ∙ ap (λ (h : Held). c.args.self.now ++ entry c.args.block h ∷ []) c.awaiting.ensures
    ∙ sym (kept-new c.args.block (waiting c.args.wait None) c.args.self.now c.in_default.ensures)
    ∙ ap (λ (o : Option Held). kept c.args.block (waiting c.args.wait o) c.args.self.now) (sym c.in_default.ensures)

pub renew-requires : goal.renew-requires
renew-requires c =
    let none : Held = waiting c.args.wait None in
    let new : Entry = entry c.args.block none in
    omega (
      arith,
      c.in-Some.ensures.inside,
      ap (λ (es : List Entry). length es) (c.wait_at.ensures new),
      length-set c.args.self.now c.in-Some.place (entry (slice_index_or c.args.self.now c.in-Some.place new).block
          (waiting c.args.wait (Some (slice_index_or c.args.self.now c.in-Some.place new).held))),
    )

pub returns-then-granted : goal.returns-then-granted
returns-then-granted c =
    let es : List Entry = c.args.self.now in
    let place = c.in-Some.place in
    let is = c.in-Some.ensures in
    let first : Entry = entry c.args.block (waiting c.args.wait None) in
    let old : Entry = slice_index_or es place first in
    let itself : old ≡ slice_index_or es place old = get_or_default es place first old is.inside in
    let held : Held = waiting c.args.wait (Some old.held) in
    let new : Entry = entry c.args.block held in
    let known : found c.args.block es ≡ Some old.held = found-place c.args.block es place first is in
    let written : c.wait_at.new.self ≡ slice_set es place new =
    c.wait_at.ensures first ∙ ap (λ b. slice_set es place (entry b held)) (is.here first) in
    let renewed : is_renewed old.held held ≡ c.is_granted_with-granted.result =
    ap (λ (h : Held). is_renewed h (waiting c.args.wait (Some h))) (sym (c.held.ensures first)) ∙ sym c.is_granted_with-granted.ensures in
    let wanted = ap (λ (o : Option Held). kept c.args.block (waiting c.args.wait o) es) (sym known) in
    c.note_last-then-granted.ensures
    ∙ c.renew.ensures new
    ∙ ap (λ (xs : List Entry). remove xs place ++ slice_index_or xs place new ∷ []) written
    ∙ rw (remove-set es place new is.inside, get_or-set_same es place new new is.inside)
    (sym (kept-granted c.args.block held es place old is itself (renewed ∙ c.if-granted.true)))
    ∙ wanted

pub returns-else-granted : goal.returns-else-granted
returns-else-granted c =
    let es : List Entry = c.args.self.now in
    let place = c.in-Some.place in
    let is = c.in-Some.ensures in
    let first : Entry = entry c.args.block (waiting c.args.wait None) in
    let old : Entry = slice_index_or es place first in
    let itself : old ≡ slice_index_or es place old = get_or_default es place first old is.inside in
    let held : Held = waiting c.args.wait (Some old.held) in
    let new : Entry = entry c.args.block held in
    let known : found c.args.block es ≡ Some old.held = found-place c.args.block es place first is in
    let written : c.wait_at.new.self ≡ slice_set es place new =
    c.wait_at.ensures first ∙ ap (λ b. slice_set es place (entry b held)) (is.here first) in
    let renewed : is_renewed old.held held ≡ c.is_granted_with-granted.result =
    ap (λ (h : Held). is_renewed h (waiting c.args.wait (Some h))) (sym (c.held.ensures first)) ∙ sym c.is_granted_with-granted.ensures in
    let wanted = ap (λ (o : Option Held). kept c.args.block (waiting c.args.wait o) es) (sym known) in
    written ∙ sym (kept-same c.args.block held es place old is itself (renewed ∙ c.if-granted.false)) ∙ wanted
