use Rattle.std.proofs.Common.{rules}
use Rattle.tl_links.proofs.queue.Queue.has.Goals as goal

pub returns-then-fits : goal.returns-then-fits
returns-then-fits c = search rules
