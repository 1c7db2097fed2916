use Rattle.std.proofs.Common.{rules}
use Rattle.tl_bank.proofs.bank.Bank.copy.Goals as goal

pub returns : goal.returns
returns c = search rules
