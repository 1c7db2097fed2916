use Rattle.std.proofs.Common.{Option, sym, subst, ◌∙◌, rules}
use Rattle.tlwire_search.specs.Left.{IsNext, MarkState}
use Rattle.tlwire_search.specs.declared.seen.Seen.{Seen}
use Rattle.tlwire_search.proofs.Along.{IsNextBy, goes_on}
use Rattle.tlwire_search.proofs.walk.goes_on.Goals as goal
use Rattle.tlwire_search.proofs.walk.goes_on.Goals.{in-Some+in_ok-is_next+else-not-branch, in_default}

pub returns : goal.returns
returns c = λ yes shape image run g.
    goes_on c.args.premises.now shape image c.args.seen.now run c.args.plain.now c.args.marks.now g c.args.event.now c.carry_out.new.self c.match-seen_of.marks
    ((c.in_ok-carry_out.ensures {u = tt}).ok)
    (elim c.match-seen_of.branch [
      | in-Some+in_ok-is_next+else-not-branch w ↦
          subst (λ (o : Option Seen). IsNextBy c.args.premises.now c.args.seen.now c.args.marks.now c.match-seen_of.marks o) (sym w.in-Some.is ∙ c.seen_of.ensures)
          (subst (λ (m : MarkState). IsNext c.args.premises.now c.args.seen.now c.args.marks.now m w.in-Some.shown) (sym w.marks-is) (w.in_ok-is_next.ensures (search rules)))
      | in_default w ↦
          subst (λ (o : Option Seen). IsNextBy c.args.premises.now c.args.seen.now c.args.marks.now c.match-seen_of.marks o) (sym w.in_default.is ∙ c.seen_of.ensures) w.marks-is
    ])
