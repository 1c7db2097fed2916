use Rattle.std.proofs.Common.{rules}
use Rattle.tl_links.proofs.queue.Queue.check_first.Goals as goal

pub returns-clause-serial : goal.returns-clause-serial
returns-clause-serial c = search rules
