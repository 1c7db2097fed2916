use Rattle.std.proofs.Common.{rules}
use Rattle.tlcheck_rules.proofs.difference.other_bytes.Goals as goal

pub returns : goal.returns
returns c = search rules
