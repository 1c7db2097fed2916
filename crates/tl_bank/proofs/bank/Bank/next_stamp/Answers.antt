use Rattle.std.proofs.Common.{rules}
use Rattle.tl_bank.proofs.bank.Bank.next_stamp.Goals as goal

pub returns : goal.returns
returns c = search rules
