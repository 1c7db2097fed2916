use Rattle.std.proofs.Common.{rules}
use Rattle.tl_protocol.proofs.client.Client.answer_probe.Goals as goal

pub returns-clause-ok : goal.returns-clause-ok
returns-clause-ok c = search rules
