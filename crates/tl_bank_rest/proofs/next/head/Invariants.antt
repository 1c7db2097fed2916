use Rattle.std.proofs.Common.{◌≡◌, ℕ, ◌<◌, []}
use Rattle.tl_bank_spec.specs.Channels.{lane_at}
use Rattle.tl_bank_rest.proofs.next.head.Given as goal

abbrev pub invariant-loop-number : goal.invariant-loop-number
invariant-loop-number l = (x : ℕ) → x < l.number → (lane_at l.bank x l.channel).messages ≡ []
