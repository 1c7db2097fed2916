use Rattle.std.proofs.Common.{◌≡◌, ℕ, ◌<◌, false}
use Rattle.tl_bank_rest.proofs.shares.has_bad.Given as goal
use Rattle.tl_bank_rest.specs.Shares.{is_bad}

abbrev pub invariant-loop-number : goal.invariant-loop-number
invariant-loop-number l = (x : ℕ) → x < l.number → is_bad l.bank l.shares x ≡ false
