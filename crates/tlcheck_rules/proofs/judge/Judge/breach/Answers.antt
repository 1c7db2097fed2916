use Rattle.std.proofs.Common.{Some, subst}
use Rattle.tlcheck_rules.specs.Judged.{JudgeState, own_block}
use Rattle.tlcheck_rules.specs.Rules.{IsFirstBroken}
use Rattle.tlcheck_rules.proofs.judge.Judge.breach.Goals as goal

pub returns-in-Some : goal.returns-in-Some
returns-in-Some c =
    subst (λ (j : JudgeState). IsFirstBroken j.plain.shape (own_block j c.args.entry.now.event) c.args.entry.now.event (Some c.in-Some.rule))
    c.self.view_is (c.in-Some.ensures {u = tt}).first
