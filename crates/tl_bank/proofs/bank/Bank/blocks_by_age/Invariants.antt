use Rattle.std.proofs.Common.{◌≡◌, map, take}
use Rattle.arrayvec.specs.ArrayVec.{array_vec_len}
use Rattle.tl_registers.specs.declared.register.Register.{Register}
use Rattle.tl_bank.proofs.bank.Bank.blocks_by_age.Given as goal

abbrev pub invariant-loop-register : goal.invariant-loop-register
invariant-loop-register l =
    (l.blocks.items ≡ map (λ (r : Register). r.own) (take l.register-index l.register-items))
    × (array_vec_len l.blocks ≡ l.register-index)
