use Rattle.std.proofs.Common.{◌≡◌, ◌∙◌, None, List, ap, eqb-true, subst, sym}
use Rattle.std.specs.Prelude.{slice_index}
use Rattle.tl_copies.specs.Entries.{Entry, found}
use Rattle.tl_copies.proofs.HintLaws.{none-counted}
use Rattle.tl_copies.proofs.table.Table.has_none_near.Goals as goal

pub returns : goal.returns
returns c = λ yes.
    subst (λ (es : List Entry). found c.args.block es ≡ None) c.self.view_is
    (none-counted c.self.invariant.1 c.self.inside.slots.items c.args.block
    (ap (λ h. slice_index c.self.inside.by_hint h) (sym c.hint_of.ensures)
    ∙ eqb-true (slice_index c.self.inside.by_hint c.hint_of.result) 0 yes))
