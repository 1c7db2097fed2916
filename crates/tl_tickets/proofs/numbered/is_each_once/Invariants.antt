use Rattle.std.proofs.Common.{◌≡◌, ◌==◌, ◌<◌, ℕ, count_by}
use Rattle.tl_tickets.proofs.numbered.is_each_once.Given as goal

abbrev pub invariant-loop-number : goal.invariant-loop-number
invariant-loop-number g l = (k : ℕ) → k < l.number → count_by (λ x. g.N.Numbered.number_of x == k) l.list ≡ 1
