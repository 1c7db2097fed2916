use Rattle.std.proofs.Common.{refl}
use Rattle.tlcheck_rules.proofs.Judging.{starts}
use Rattle.tlcheck_rules.proofs.judge.Judge.new.Goals as goal

pub returns : goal.returns
returns c = starts c.args.order c.args.shape c.args.image.now _ refl c.in_ok-plain.ensures c.in_ok-waiting.ensures.empty
