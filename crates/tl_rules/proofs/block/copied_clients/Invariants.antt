use Rattle.std.proofs.Common.{◌≡◌, take}
use Rattle.tl_rules.proofs.block.copied_clients.Given as goal

abbrev pub invariant-loop-client : goal.invariant-loop-client
invariant-loop-client l = l.copy.items ≡ take l.client-index l.clients
