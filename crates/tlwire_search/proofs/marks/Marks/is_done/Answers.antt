use Rattle.std.proofs.Common.{◌∙◌, sym, subst, ap, ◌++◌, ◌∷◌, []}
use Rattle.tlwire_search.specs.Explained.{wire_of}
use Rattle.tlwire_search.specs.Left.{IsDone, MarkState}
use Rattle.tlwire_search.specs.declared.seen.Wire.{Wire}
use Rattle.tlwire_search.proofs.Marking.{none_left, noted}
use Rattle.tlwire_search.proofs.marks.Marks.is_done.Goals as goal

pub returns-clause-marking : goal.returns-clause-marking
returns-clause-marking c =
    let w : Wire = wire_of c.args.shown.now in
    let none : IsDone c.args.seen.now c.args.self.now.marks w =
    none_left w c.args.self.now.marks c.args.seen.now (λ k s free at is. (c.in_default.ensures {u = tt}).none k s free at (is ∙ sym c.wire-2.ensures)) c.requires.sized in
    noted c.args.seen.now c.args.self.now _ w c.requires none (ap (λ (m : MarkState). m.marks) c.self.view_is) (ap (λ (m : MarkState). m.from) c.self.view_is)
    (c.in_ok-push.ensures.items
    ∙ (ap (λ (m : MarkState). m.done ++ c.wire-3.result ∷ []) c.self.view_is
    ∙ ap (λ (v : Wire). c.args.self.now.done ++ v ∷ []) c.wire-3.ensures))

pub returns-clause-done : goal.returns-clause-done
returns-clause-done c = λ yes.
    let w : Wire = wire_of c.args.shown.now in
    let none : IsDone c.args.seen.now c.args.self.now.marks w =
    none_left w c.args.self.now.marks c.args.seen.now (λ k s free at is. (c.in_default.ensures {u = tt}).none k s free at (is ∙ sym c.wire-2.ensures)) c.requires.sized in
    subst (λ (m : MarkState). IsDone c.args.seen.now m.marks w) (sym c.self.view_is) none
