use Rattle.tl_memory.proofs.BlockLaws.{IsFilled}
use Rattle.tl_memory.proofs.memory.Memory.of_bank.Given as goal

abbrev pub invariant-loop-number : goal.invariant-loop-number
invariant-loop-number l = IsFilled l.fn.geometry l.fn.bank l.fn.image l.number l.memory
