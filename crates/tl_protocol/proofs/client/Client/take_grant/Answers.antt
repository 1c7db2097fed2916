use Rattle.std.proofs.Common.{rules}
use Rattle.tl_protocol.proofs.client.Client.take_grant.Goals as goal

pub returns-in-Some-Grant-clause-ok : goal.returns-in-Some-Grant-clause-ok
returns-in-Some-Grant-clause-ok c = search rules
