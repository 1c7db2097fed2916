use Rattle.std.proofs.Common.{rules}
use Rattle.tl_bank.proofs.bank.Bank.waits_for.Goals as goal

pub returns : goal.returns
returns c = search rules
