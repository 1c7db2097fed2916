use Rattle.std.proofs.Common.{rules}
use Rattle.tl_protocol.proofs.client.Client.take_c.Goals as goal

pub returns-in-Some-clause-ok : goal.returns-in-Some-clause-ok
returns-in-Some-clause-ok c = search rules
