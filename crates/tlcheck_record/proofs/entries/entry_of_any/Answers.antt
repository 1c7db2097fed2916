use Rattle.std.proofs.Common.{rules}
use Rattle.tlcheck_record.proofs.entries.entry_of_any.Goals as goal

pub returns : goal.returns
returns c = search rules
