use Rattle.std.proofs.Common.{◌≡◌, ◌++◌, Option, sym, subst, ◌∙◌}
use Rattle.tlwire_search.specs.Explained.{as_list}
use Rattle.tlwire_search.specs.declared.seen.Seen.{Seen}
use Rattle.tlwire_pins.proofs.Replayed.{replayed_more}
use Rattle.tlwire_pins.proofs.Walk.{nil_more}
use Rattle.tlwire_pins.proofs.replay.take.Goals as goal
use Rattle.tlwire_pins.proofs.replay.take.Goals.{in-Some+in_ok-push, in_default}

pub returns : goal.returns
returns c = λ yes shape image run r.
    replayed_more shape image run c.args.plain.now c.carry_out.new.self c.args.lines.now.items c.match-line_of.lines.items c.args.event.now r
    ((c.in_ok-carry_out.ensures {u = tt}).ok)
    (elim c.match-line_of.branch [
      | in-Some+in_ok-push w ↦
          subst (λ (o : Option Seen). c.match-line_of.lines.items ≡ c.args.lines.now.items ++ as_list o) (sym w.in-Some.is ∙ c.line_of.ensures)
          (rw w.lines-is w.in_ok-push.ensures.items)
      | in_default w ↦
          subst (λ (o : Option Seen). c.match-line_of.lines.items ≡ c.args.lines.now.items ++ as_list o) (sym w.in_default.is ∙ c.line_of.ensures)
          (rw w.lines-is (sym (nil_more c.args.lines.now.items)))
    ])
