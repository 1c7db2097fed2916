use Rattle.std.proofs.Common.{rules}
use Rattle.tl_bank.proofs.bank.Bank.granted.Goals as goal

pub returns-else-is_alone : goal.returns-else-is_alone
returns-else-is_alone c = search rules
