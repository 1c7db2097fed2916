use Rattle.std.proofs.Common.{ℕ, ◌<◌, Contains}
use Rattle.tl_tickets.specs.Shares.{share_at}
use Rattle.tl_tickets.proofs.shares.gather.Given as goal

abbrev pub invariant-loop-number : goal.invariant-loop-number
invariant-loop-number l = (client : ℕ) → client < l.number → Contains l.shares (share_at l.bank client)
