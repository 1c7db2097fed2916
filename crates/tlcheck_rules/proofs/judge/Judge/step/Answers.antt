use Rattle.std.proofs.Common.{◌≡◌, subst}
use Rattle.tlcheck_rules.specs.declared.judge.Breach.{Breach}
use Rattle.tlcheck_rules.specs.Judged.{Breaks}
use Rattle.tlcheck_rules.proofs.Judging.{all_rejected}
use Rattle.tlcheck_rules.proofs.judge.Judge.step.Goals as goal

-- the entry breaks what the judge's state says
pub returns-in-Some-clause-broken : goal.returns-in-Some-clause-broken
returns-in-Some-clause-broken c = λ breach is order shape image log f.
    let same : c.in-Some.breach ≡ breach = cc in
    subst (λ (b : Breach). Breaks order shape image log c.args.entry.now b) same
    (all_rejected c.args.self.now order shape image log f c.args.entry.now c.in-Some.breach (c.in-Some.ensures {u = tt}))
