use Rattle.std.proofs.Common.{Option, MatchOption, subst}
use Rattle.tl_protocol_lanes.specs.Lanes.{Post}
use Rattle.tlcheck_rules.specs.Differs.{Differs}
use Rattle.tlcheck_rules.specs.Judged.{IsShown}
use Rattle.tlcheck_rules.specs.Rules.{client_of}
use Rattle.tlcheck_rules.proofs.judge.Judge.difference.Goals as goal

pub returns : goal.returns
returns c =
    subst (λ (post : Option Post). MatchOption c.difference_of.result (IsShown post c.args.entry.now.shown) (λ d. Differs post c.args.entry.now.shown d)) c.sent.ensures
    (c.difference_of.ensures (client_of c.args.entry.now.event))
