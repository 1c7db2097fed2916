use Rattle.std.proofs.Common.{ap}
use Rattle.tl_tickets.proofs.Keeps.{counts}
use Rattle.tl_tickets.proofs.inbox.count_senders.Goals as goal

pub another-nothing-requires-clause-rule : goal.another-nothing-requires-clause-rule
another-nothing-requires-clause-rule c = let is = c.loop-counted.invariant.2 in counts _ _ (ap (λ v. v.takes) is) (ap (λ v. v.puts) is) (ap (λ v. v.given) is)
