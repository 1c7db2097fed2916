use Rattle.std.proofs.Common.{rules}
use Rattle.tl_bank.proofs.bank.Bank.busy_ways.Goals as goal

pub loop-number-preserved : goal.loop-number-preserved
loop-number-preserved c = search rules
