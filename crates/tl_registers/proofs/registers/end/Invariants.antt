use Rattle.std.proofs.Common.{◌≡◌, ◌++◌, map, take, drop}
use Rattle.tl_registers.specs.Registers.{without_victim}
use Rattle.tl_registers.proofs.registers.end.Given as goal

abbrev pub invariant-loop-register : goal.invariant-loop-register
invariant-loop-register l =
    l.registers ≡ map (without_victim l.victim) (take l.register-index l.initial.registers) ++ drop l.register-index l.initial.registers
