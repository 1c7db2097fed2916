use Rattle.std.proofs.Common.{◌≡◌}
use Rattle.test_layers.proofs.tickets.ring_often.Given as goal

abbrev pub invariant-loop : goal.invariant-loop
invariant-loop l = l.ringer.bell ≡ l.fn.ringer.bell
