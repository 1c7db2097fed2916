use Rattle.std.proofs.Common.{rules}
use Rattle.tlcheck_record.proofs.words.fitted.Goals as goal

pub returns : goal.returns
returns c = search rules
