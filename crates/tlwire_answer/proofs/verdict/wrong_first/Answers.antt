use Rattle.std.proofs.Common.{arith}
use Rattle.tlwire_answer.proofs.Firsts.{pins_less}
use Rattle.tlwire_answer.proofs.verdict.wrong_first.Goals as goal

pub returns-in-Stuck : goal.returns-in-Stuck
returns-in-Stuck g c =
    let said = rw c.in-Stuck.is at c.in_ok-stuck.ensures in
    (said.0, pins_less c.args.messages.now c.in-Stuck.stuck.place c.args.wrong.place (omega (arith, said.1)) c.requires.1)
