-- As many answers as got bytes.
use Rattle.std.proofs.Common.{◌≡◌, ◌≤◌, length, ap, arith}
use Rattle.std.proofs.lemmas.Bool.Decides.{nat_tests}
use Rattle.tl_client.specs.Answers.{AgentView, answered_of}
use Rattle.tl_client.proofs.AnswerLaws.{length-answered}
use Rattle.tl_client.proofs.agent.Agent.has_answered_all.Goals as goal

pub returns : goal.returns
returns c is =
    let answers : length (answered_of c.self.inside.bytes.items c.self.inside.script.now) ≡ length c.args.self.now.answered = ap (λ (t : AgentView). length t.answered) c.self.view_is in
    let script : length c.self.inside.script.now ≡ length c.args.self.now.script = ap (λ (t : AgentView). length t.script) c.self.view_is in
    let bytes = length-answered c.self.inside.bytes.items c.self.inside.script.now c.self.invariant.1 in
    let within : length c.self.inside.script.now ≤ c.len.result = grind (arith, nat_tests) in
    omega (arith, answers, script, bytes, within, c.len.ensures, c.self.inside.bytes.ok.0, c.self.invariant.1)
