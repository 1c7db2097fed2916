use Rattle.std.proofs.Common.{◌≡◌, ◌++◌, map, take, drop}
use Rattle.tl_registers.specs.Registers.{with_probe_of}
use Rattle.tl_registers.proofs.registers.note.Given as goal

abbrev pub invariant-loop-register : goal.invariant-loop-register
invariant-loop-register l =
    l.registers ≡ map (with_probe_of l.block l.client) (take l.register-index l.initial.registers) ++ drop l.register-index l.initial.registers
