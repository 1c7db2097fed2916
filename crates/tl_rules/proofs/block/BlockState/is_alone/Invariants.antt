use Rattle.std.proofs.Common.{◌≡◌}
use Rattle.tl_rules.specs.Plain.{plain_client}
use Rattle.tl_protocol.specs.Protocol.{is_alone}
use Rattle.tl_rules.proofs.block.BlockState.is_alone.Given as goal

abbrev pub invariant-loop-i : goal.invariant-loop-i
invariant-loop-i l = l.alone ≡ is_alone l.i l.c (plain_client l.self)
