use Rattle.std.proofs.Common.{◌≡◌, take}
use Rattle.tl_bank.proofs.bank.Bank.busy_ways.Given as goal

abbrev pub invariant-loop-number : goal.invariant-loop-number
invariant-loop-number l = l.busy.items ≡ take l.number-index l.number-items
