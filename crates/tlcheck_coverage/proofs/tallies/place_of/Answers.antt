use Rattle.std.proofs.Common.{ℕ, ◌∙◌, arith, below_more}
use Rattle.tlcheck_coverage.specs.Tallies.{IsOf}
use Rattle.tlcheck_coverage.proofs.Opening.{not_of, of_within}
use Rattle.tlcheck_coverage.proofs.tallies.place_of.Goals as goal

-- the tally at this place is of another number of clients
pub loop-place-preserved : goal.loop-place-preserved
loop-place-preserved c =
    below_more (λ (k : ℕ). IsOf c.args.clients k c.args.tallies.now → ⊥) c.loop-place.place c.loop-place.invariant
    (not_of c.args.clients c.loop-place.place c.args.tallies.now c.index-tallies-place.result c.loop-place-test.true c.index-tallies-place.is
    (λ e. c.if-clients.false (c.clients.ensures ∙ (c.table.ensures.clients ∙ e))))

-- so is that at any place
pub returns : goal.returns
returns c = λ place h.
    let inside = of_within c.args.clients place c.args.tallies.now h in
    c.loop-place.invariant place (omega (arith, inside, c.loop-place-test.false)) h
