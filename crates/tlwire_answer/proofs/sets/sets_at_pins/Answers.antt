use Rattle.tlwire_answer.proofs.Asked.{sets_less}
use Rattle.tlwire_answer.proofs.sets.sets_at_pins.Goals as goal

pub returns : goal.returns
returns g c =
    c.joined.ensures c.args.messages.now c.args.to c.in_ok-sets.ensures
    (sets_less c.args.messages.now c.asked_to.result c.args.to c.in_ok-other.other
    (c.asked_to.ensures c.args.messages.now c.in_ok-sets.ensures) c.in_ok-other.ensures)
