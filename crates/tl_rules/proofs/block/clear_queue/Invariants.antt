use Rattle.std.proofs.Common.{◌≡◌, ◌+◌, length}
use Rattle.tl_rules.proofs.block.clear_queue.Given as goal

abbrev pub invariant-loop : goal.invariant-loop
invariant-loop g l = length l.queue + l.counter ≡ l.end
