use Rattle.std.proofs.Common.{◌≡◌, sym, subst, ◌∙◌, Some, set, slice_get, true, rules}
use Rattle.tlwire_search.specs.Left.{MarkState}
use Rattle.tlwire_search.specs.declared.seen.Seen.{Seen}
use Rattle.tlwire_search.proofs.Marking.{here_is, is_marked}
use Rattle.tlwire_search.proofs.marks.Marks.mark.Goals as goal

pub returns : goal.returns
returns c = λ yes.
    let found = c.in-Some.ensures {u = tt} in
    let same : c.index-seen-place.result ≡ c.args.shown.now = (c.if-not-is_same.ensures {u = tt}).0 (search rules) in
    is_marked c.args.seen.now c.args.self.now c.pass.new.self c.in-Some.place c.args.shown.now c.requires found.free
    (subst (λ (s : Seen). slice_get c.args.seen.now c.in-Some.place ≡ Some s) same
    (here_is c.args.seen.now c.in-Some.place c.index-seen-place.result found.place c.index-seen-place.is))
    (λ k r lt free at is. found.before k r lt free at (is ∙ sym c.wire.ensures))
    (subst (λ (m : MarkState). c.pass.new.self.marks ≡ set m.marks c.in-Some.place true) c.self.view_is c.pass.ensures.marks)
    (subst (λ (m : MarkState). c.pass.new.self.done ≡ m.done) c.self.view_is c.pass.ensures.done) c.pass.ensures.before
