use Rattle.std.proofs.Common.{refl}
use Rattle.tlwire_pins.proofs.Judged.{breaks_now, follows_more, ok_map, some_map}
use Rattle.tlwire_pins.proofs.judge.PinsJudge.step.Goals as goal

pub returns-clause-taken : goal.returns-clause-taken
returns-clause-taken c =
    ok_map c.step.result _ _ (λ found h none. follows_more c.args.line.now c.args.self.now _ (refl, refl, refl) (h none)) c.step.ensures.steps

pub returns-clause-broken : goal.returns-clause-broken
returns-clause-broken c =
    ok_map c.step.result _ _ (λ found h. some_map found _ _ (λ b breaks. breaks_now c.args.line.now c.args.self.now b breaks) h) c.step.ensures.broken
