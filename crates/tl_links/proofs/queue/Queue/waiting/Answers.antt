use Rattle.std.proofs.Common.{arith}
use Rattle.tl_links.proofs.KeyLaws.{length-keys}
use Rattle.tl_links.proofs.queue.Queue.waiting.Goals as goal

pub returns-clause-value : goal.returns-clause-value
returns-clause-value c = omega (arith, length-keys c.self.invariant c.self.view_is)
