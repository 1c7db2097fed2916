use Rattle.std.proofs.Common.{rules}
use Rattle.tl_protocol.proofs.queue.Queue.pop_front.Goals as goal

pub returns-else-is_empty : goal.returns-else-is_empty
returns-else-is_empty c = search rules
