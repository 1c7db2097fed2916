use Rattle.std.proofs.Common.{◌≡◌}
use Rattle.test_layers.proofs.tickets.put_all.Given as goal

abbrev pub invariant-loop : goal.invariant-loop
invariant-loop g l = l.sender.inbox ≡ l.fn.sender.inbox
