use Rattle.std.proofs.Common.{◌≡◌}
use Rattle.tl_bank_rest.proofs.image.image_of.Given as goal
use Rattle.tl_bank_rest.specs.Image.{memory_below}

abbrev pub invariant-loop-number : goal.invariant-loop-number
invariant-loop-number l = l.bytes.items ≡ memory_below l.bank l.number
