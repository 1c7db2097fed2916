use Rattle.std.proofs.Common.{◌≡◌, drop}
use Rattle.tl_bank_home.specs.Crossings.{outward_of}
use Rattle.tl_bank_home.proofs.crossings.Crossings.of.Given as goal

abbrev pub invariant-loop-crossing : goal.invariant-loop-crossing
invariant-loop-crossing l = outward_of l.block l.crossing-items ≡ outward_of l.block (drop l.crossing-index l.crossing-items)
