use Rattle.std.proofs.Common.{rules}
use Rattle.tlcheck_record.proofs.entries.read_entry.Goals as goal

pub returns-in-Some : goal.returns-in-Some
returns-in-Some c = search rules
