use Rattle.std.proofs.Common.{rules}
use Rattle.tl_bank.proofs.bank.Bank.check_evict.Goals as goal

pub returns-then-is_in_use-clause-refused : goal.returns-then-is_in_use-clause-refused
returns-then-is_in_use-clause-refused c = search rules

pub returns-clause-permitted : goal.returns-clause-permitted
returns-clause-permitted c = search rules

pub returns-clause-way : goal.returns-clause-way
returns-clause-way c = search rules
