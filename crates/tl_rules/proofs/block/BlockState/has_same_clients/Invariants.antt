use Rattle.std.proofs.Common.{◌≡◌, take}
use Rattle.tl_rules.proofs.block.BlockState.has_same_clients.Given as goal

abbrev pub invariant-loop-i : goal.invariant-loop-i
invariant-loop-i l = take l.i l.self-inside.clients.items ≡ take l.i l.other-inside.clients.items
