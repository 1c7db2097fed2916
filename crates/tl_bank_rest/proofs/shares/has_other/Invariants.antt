use Rattle.std.proofs.Common.{◌≡◌, ℕ, ◌<◌, false}
use Rattle.tl_bank_rest.proofs.shares.has_other.Given as goal
use Rattle.tl_bank_rest.specs.Shares.{is_other}

abbrev pub invariant-loop-number : goal.invariant-loop-number
invariant-loop-number l = (x : ℕ) → x < l.number → is_other l.bank l.shares x ≡ false
