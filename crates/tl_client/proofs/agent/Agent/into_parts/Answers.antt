-- As many answers as got bytes.
use Rattle.std.proofs.Common.{length, List, ap, sym, ◌∙◌}
use Rattle.tl_text.specs.declared.report.Answered.{Answered}
use Rattle.tl_client.specs.Answers.{AgentView}
use Rattle.tl_client.proofs.AnswerLaws.{length-answered}
use Rattle.tl_client.proofs.agent.Agent.into_parts.Goals as goal

pub returns-clause-count : goal.returns-clause-count
returns-clause-count c =
    sym (length-answered c.self.inside.bytes.items c.self.inside.script.now c.self.invariant.1)
    ∙ ap (λ (xs : List Answered). length xs) (ap (λ (t : AgentView). t.answered) c.self.view_is)
