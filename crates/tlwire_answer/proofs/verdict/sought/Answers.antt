use Rattle.tlwire_answer.proofs.Firsts.{pins_take}
use Rattle.tlwire_answer.proofs.verdict.sought.Goals as goal

pub returns-in-Stuck : goal.returns-in-Stuck
returns-in-Stuck g c =
    let said = rw c.in-Stuck.is at c.in_ok-stuck.ensures in
    (said.0, pins_take c.args.messages.now c.in-Stuck.stuck.place c.requires.pins)

pub returns-in-Open : goal.returns-in-Open
returns-in-Open g c = c.with_reason.ensures c.args.messages.now c.in_ok-verdict.ensures

-- whatever was asked before said nothing
pub sets_behind-requires : goal.sets_behind-requires
sets_behind-requires g c = c.requires.between _
