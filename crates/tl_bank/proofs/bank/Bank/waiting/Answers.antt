use Rattle.std.proofs.Common.{rules}
use Rattle.tl_bank.proofs.bank.Bank.waiting.Goals as goal

pub returns-in_err-message : goal.returns-in_err-message
returns-in_err-message c = search rules

pub returns : goal.returns
returns c = search rules
