use Rattle.std.proofs.Common.{◌≡◌, ap, arith}
use Rattle.tlwire_search.specs.Left.{MarkState}
use Rattle.tlwire_search.proofs.Marking.{all_marked}
use Rattle.tlwire_search.proofs.marks.Marks.is_full.Goals as goal

pub returns : goal.returns
returns c =
    let same : c.self.inside.from ≡ c.args.self.now.from = ap (λ (m : MarkState). m.from) c.self.view_is in
    λ full. all_marked c.args.self.now.marks c.args.seen.now c.requires.sized (λ k lt. c.requires.before k (omega arith))
