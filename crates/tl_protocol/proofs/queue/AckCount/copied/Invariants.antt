use Rattle.std.proofs.Common.{◌≡◌}
use Rattle.tl_protocol.proofs.queue.AckCount.copied.Given as goal

abbrev pub invariant-loop : goal.invariant-loop
invariant-loop l = l.copy ≡ l.counter
