use Rattle.std.proofs.Common.{rules}
use Rattle.tl_bank.proofs.bank.Bank.check_grant.Goals as goal

pub returns-clause-finds : goal.returns-clause-finds
returns-clause-finds c = search rules
