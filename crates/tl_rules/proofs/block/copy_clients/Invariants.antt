use Rattle.std.proofs.Common.{◌≡◌, length, take}
use Rattle.tl_rules.proofs.block.copy_clients.Given as goal

abbrev pub invariant-loop-i : goal.invariant-loop-i
invariant-loop-i l = (length l.clients ≡ length l.others) × (take l.i l.clients ≡ take l.i l.others)
