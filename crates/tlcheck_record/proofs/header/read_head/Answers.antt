use Rattle.std.proofs.Common.{rules}
use Rattle.tlcheck_record.proofs.header.read_head.Goals as goal

pub returns-clause-value : goal.returns-clause-value
returns-clause-value c = search rules
