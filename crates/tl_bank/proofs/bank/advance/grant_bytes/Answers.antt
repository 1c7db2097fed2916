use Rattle.std.proofs.Common.{rules}
use Rattle.tl_bank.proofs.bank.advance.grant_bytes.Goals as goal

pub returns-in-None : goal.returns-in-None
returns-in-None c = search rules
