use Rattle.std.proofs.Common.{◌≡◌, take}
use Rattle.tl_registers.specs.Registers.{held_in}
use Rattle.tl_registers.proofs.registers.Registers.held_in.Given as goal

abbrev pub invariant-loop-register : goal.invariant-loop-register
invariant-loop-register l = l.held.items ≡ held_in l.set (take l.register-index l.register-items)
