use Rattle.std.proofs.Common.{ℕ, List, subst}
use Rattle.tlcheck_home.specs.Tally.{TallyState}
use Rattle.tlcheck_coverage.specs.Tallies.{IsOf, Opens}
use Rattle.tlcheck_coverage.proofs.Opening.{opens_known, opens_made}
use Rattle.tlcheck_coverage.proofs.tallies.Tallies.place_for.Goals as goal

-- it stands there
pub returns-in-Some-clause-opens : goal.returns-in-Some-clause-opens
returns-in-Some-clause-opens c =
    subst (λ (n : ℕ). Opens n c.in-Some.place c.args.self.now c.args.self.now) c.min-meant.ensures
    (opens_known c.min-meant.result c.in-Some.place c.args.self.now
    (subst (λ (ts : List TallyState). IsOf c.min-meant.result c.in-Some.place ts) c.all.ensures.value (c.in-Some.ensures {u = tt})))

-- it is made, where there was none
pub returns-in_ok-place-in-None-clause-opens : goal.returns-in_ok-place-in-None-clause-opens
returns-in_ok-place-in-None-clause-opens c =
    let made = c.in_ok-tally-in-None.ensures {u = tt} in
    let joined = c.in_ok-place-in-None.ensures {u = tt} in
    let place = c.in_ok-place-in-None.place in
    subst (λ (n : ℕ). Opens n place c.args.self.now c.join.new.self) c.min-meant.ensures
    (opens_made c.min-meant.result place c.args.self.now c.join.new.self c.in_ok-tally-in-None.tally
    (subst (λ (ts : List TallyState). (k : ℕ) → IsOf c.min-meant.result k ts → ⊥) c.all.ensures.value (c.in-None.ensures {u = tt}))
    made.clients made.uncounted joined.place joined.by_home joined.joined)
