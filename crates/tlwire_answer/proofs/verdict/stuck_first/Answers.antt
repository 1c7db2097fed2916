use Rattle.tlwire_answer.proofs.Firsts.{pins_take}
use Rattle.tlwire_answer.proofs.verdict.stuck_first.Goals as goal

pub returns-in-Stuck : goal.returns-in-Stuck
returns-in-Stuck g c =
    let said = rw c.in-Stuck.is at c.in_ok-first.ensures in
    (said.0, pins_take c.args.messages.now c.in-Stuck.first.place c.requires.pins)

pub returns-in-Open : goal.returns-in-Open
returns-in-Open g c = (c.requires.stuck, pins_take c.args.messages.now c.args.stuck.place c.requires.pins)
