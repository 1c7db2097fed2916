use Rattle.std.proofs.Common.{◌≡◌, ◌+◌, ◌-◌, ◌<◌, ℕ, length, subst, arith}
use Rattle.tlwire_exchanges.specs.Opened.{HasAnswers}
use Rattle.tlwire_exchanges.proofs.Links.{has_more}
use Rattle.tlwire_exchanges.proofs.answers.Answers.of.Goals as goal

pub loop-place-preserved : goal.loop-place-preserved
loop-place-preserved c =
    let place : ℕ = c.loop-place.place - 1 in
    let one : c.loop-place.place ≡ place + 1 = omega (arith, c.loop-place-test.true) in
    let lt : place < length c.args.seen.now = omega (arith, c.loop-place-test.true, c.loop-place.auto.place) in
    has_more c.loop-place.answers c.put_before.new.self c.args.seen.now place c.index-seen-place.result lt
    c.index-seen-place.is
    (subst (λ (n : ℕ). HasAnswers c.loop-place.answers n c.args.seen.now) one c.loop-place.invariant)
    c.in_ok-put_before.ensures.first c.in_ok-put_before.ensures.next
