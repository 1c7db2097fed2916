use Rattle.std.proofs.Common.{List, Bool, ap, ◌∙◌}
use Rattle.tlwire_search.specs.Left.{left}
use Rattle.tlwire_search.proofs.Marking.{none_marked}
use Rattle.tlwire_search.proofs.marks.Marks.new.Goals as goal

pub returns-clause-left : goal.returns-clause-left
returns-clause-left c = λ seen sized.
    ap (λ (marks : List Bool). left marks seen) (c.in_ok-vec.ensures.items_if_clones_equal (λ y e. e)) ∙ none_marked c.args.len seen
