use Rattle.std.proofs.Common.{◌≡◌, ℕ, ◌+◌, true, false, sym, ◌∙◌, ap, arith}
use Rattle.tl_types.specs.Count.{count_below}
use Rattle.tl_embed.specs.Saw.{is_stored}
use Rattle.tl_embed.proofs.Stored.{count-next}
use Rattle.tl_embed.proofs.stores.Inferred.count.Goals as goal
use Rattle.tl_embed.proofs.stores.Inferred.count.Goals.{then-is_stored, else-is_stored}

-- one place more
pub loop-place-preserved : goal.loop-place-preserved
loop-place-preserved c =
    let test = is_stored c.args.self.now c.args.seen.now in
    let place : ℕ = c.loop-place.place in
    elim c.if-is_stored.branch [
      | then-is_stored w ↦ (
        w.count-is
            ∙ ap (λ (n : ℕ). n + 1) c.loop-place.invariant.0
            ∙ sym (count-next test place true (sym c.is_stored.ensures ∙ w.if-is_stored.true)),
        omega (arith, w.count-is, c.loop-place.invariant.1),
      )
      | else-is_stored w ↦ (
        w.count-is
            ∙ c.loop-place.invariant.0
            ∙ sym (count-next test place false (sym c.is_stored.ensures ∙ w.if-is_stored.false) ∙ (let none : count_below test place + 0 ≡ count_below test place = omega arith in none)),
        omega (arith, w.count-is, c.loop-place.invariant.1),
      )
    ]
