use Rattle.std.proofs.Common.{◌≡◌, drop}
use Rattle.tl_rules.specs.Certified.{accesses_of}
use Rattle.tl_rules.proofs.merge.next_access.Given as goal

abbrev pub invariant-loop-place : goal.invariant-loop-place
invariant-loop-place l = accesses_of (drop l.place l.log) ≡ accesses_of (drop l.cursor l.log)
