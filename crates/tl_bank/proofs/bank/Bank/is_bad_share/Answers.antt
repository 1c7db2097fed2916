use Rattle.std.proofs.Common.{rules}
use Rattle.tl_bank.proofs.bank.Bank.is_bad_share.Goals as goal

pub returns-then-eq : goal.returns-then-eq
returns-then-eq c = search rules
