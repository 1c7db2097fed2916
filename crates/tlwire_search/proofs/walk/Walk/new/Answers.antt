use Rattle.std.proofs.Common.{List, sym, subst, refl}
use Rattle.tl_protocol.specs.declared.event.Event.{Event}
use Rattle.tlwire_search.specs.Left.{GoesAlong}
use Rattle.tlwire_search.proofs.Along.{starts}
use Rattle.tlwire_search.proofs.walk.Walk.new.Goals as goal

pub returns : goal.returns
returns c = λ premises.
    subst (λ (run : List Event). GoesAlong premises c.args.shape c.args.image.now c.args.seen.now run c.in_ok-plain.plain c.in_ok-marks.marks)
    (sym c.new-run.ensures.items)
    (starts premises c.args.shape c.args.image.now c.args.seen.now c.in_ok-plain.plain c.in_ok-marks.marks c.in_ok-plain.ensures
    (c.in_ok-marks.ensures.marking c.args.seen.now refl) (c.in_ok-marks.ensures.left c.args.seen.now refl))
