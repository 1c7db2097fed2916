use Rattle.tlcheck_rules.proofs.Judging.{all_allowed, all_carried}
use Rattle.tlcheck_rules.proofs.judge.Judge.take_allowed.Goals as goal

-- the entry is permitted, and the judge goes on with its event
pub returns : goal.returns
returns c = λ order shape image log f. (
  all_allowed c.args.self.now order shape image log f c.args.entry.now c.requires,
  all_carried c.args.self.now order shape image log f c.args.entry.now.event c.carry_out.new.self (c.in_ok-carry_out.ensures {u = tt}),
)
