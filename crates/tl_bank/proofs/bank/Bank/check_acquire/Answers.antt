use Rattle.tl_bank.proofs.bank.Bank.check_acquire.Goals as goal

pub returns-clause-refused : goal.returns-clause-refused
returns-clause-refused c = tt
