use Rattle.std.proofs.Common.{◌≡◌, replicate}
use Rattle.tl_protocol.specs.Client.{fresh_client}
use Rattle.tl_rules.proofs.block.BlockState.new.Given as goal

abbrev pub invariant-loop-client : goal.invariant-loop-client
invariant-loop-client l = l.fresh.items ≡ replicate l._client fresh_client
