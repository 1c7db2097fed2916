use Rattle.tl_bank_laws.specs.Found.{AreFound}
use Rattle.tl_bank.proofs.bank.Bank.blocks_by_way.Given as goal

abbrev pub invariant-loop-place : goal.invariant-loop-place
invariant-loop-place l = AreFound l.self l.place l.blocks.items
