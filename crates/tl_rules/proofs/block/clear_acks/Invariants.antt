use Rattle.std.proofs.Common.{◌≡◌, ◌+◌}
use Rattle.tl_rules.proofs.block.clear_acks.Given as goal

abbrev pub invariant-loop : goal.invariant-loop
invariant-loop l = l.acks + l.counter ≡ l.end
