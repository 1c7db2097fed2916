use Rattle.std.proofs.Common.{arith}
use Rattle.tl_links.proofs.KeyLaws.{sent-keys}
use Rattle.tl_links.proofs.queue.Queue.sent.Goals as goal

pub returns : goal.returns
returns c = omega (arith, sent-keys c.self.invariant c.self.view_is)
