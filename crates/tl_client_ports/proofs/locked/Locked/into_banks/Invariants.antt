use Rattle.std.proofs.Common.{◌≡◌, ◌+◌, length, vec_len}
use Rattle.std.specs.Vec.Iter.{into_iter_len}
use Rattle.tl_client_ports.proofs.locked.Locked.into_banks.Given as goal

-- the banks so far, with the locks that are left, are as many as the locks
abbrev pub invariant-loop-locked : goal.invariant-loop-locked
invariant-loop-locked l = vec_len l.banks + into_iter_len l.locked-iterator ≡ length l.fn.self.numbers
