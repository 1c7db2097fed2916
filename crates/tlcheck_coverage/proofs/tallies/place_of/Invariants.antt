use Rattle.std.proofs.Common.{ℕ, ◌<◌}
use Rattle.tlcheck_coverage.specs.Tallies.{IsOf}
use Rattle.tlcheck_coverage.proofs.tallies.place_of.Given as goal

-- none of the tallies so far is of so many clients
abbrev pub invariant-loop-place : goal.invariant-loop-place
invariant-loop-place l = (k : ℕ) → k < l.place → IsOf l.clients k l.tallies → ⊥
