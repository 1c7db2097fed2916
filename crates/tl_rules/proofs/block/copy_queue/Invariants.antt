use Rattle.std.proofs.Common.{◌≡◌, take}
use Rattle.tl_rules.proofs.block.copy_queue.Given as goal

abbrev pub invariant-loop-message : goal.invariant-loop-message
invariant-loop-message g l = l.queue ≡ take l.message-index l.other
