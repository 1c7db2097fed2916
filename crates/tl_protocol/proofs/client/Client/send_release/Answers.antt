use Rattle.std.proofs.Common.{rules}
use Rattle.tl_protocol.proofs.client.Client.send_release.Goals as goal

pub returns-clause-ok : goal.returns-clause-ok
returns-clause-ok c = search rules
