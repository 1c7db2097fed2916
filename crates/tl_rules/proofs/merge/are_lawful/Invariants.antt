use Rattle.std.proofs.Common.{ℕ, ◌<◌}
use Rattle.tl_rules.specs.Certified.{events_of}
use Rattle.tl_rules.proofs.Loop.{IsLawfulAt}
use Rattle.tl_rules.proofs.merge.are_lawful.Given as goal

abbrev pub invariant-loop-log : goal.invariant-loop-log
invariant-loop-log l = (k : ℕ) → k < l.log-index → IsLawfulAt (events_of l.logs) k
