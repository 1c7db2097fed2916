use Rattle.std.proofs.Common.{take}
use Rattle.tl_registers.specs.Marks.{IsMarked}
use Rattle.tl_registers.proofs.registers.marks_of.Given as goal

abbrev pub invariant-loop-register : goal.invariant-loop-register
invariant-loop-register l = IsMarked (take l.register-index l.registers) l.marks
