use Rattle.std.proofs.Common.{rules}
use Rattle.tl_protocol.proofs.client.Client.may_send_release.Goals as goal

pub returns-then-eq : goal.returns-then-eq
returns-then-eq c = search rules
