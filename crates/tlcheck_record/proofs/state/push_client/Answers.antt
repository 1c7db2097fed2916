use Rattle.std.proofs.Common.{rules}
use Rattle.tlcheck_record.proofs.state.push_client.Goals as goal

pub returns : goal.returns
returns c = search rules
