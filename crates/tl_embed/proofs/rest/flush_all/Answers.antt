use Rattle.std.proofs.Common.{ℕ, subst}
use Rattle.tl_trace.specs.Rests.{IsAway, RestsAt}
use Rattle.tl_embed.proofs.Resting.{so-far-next}
use Rattle.tl_embed.proofs.rest.flush_all.Goals as goal

-- one bank more
pub loop-number-preserved : goal.loop-number-preserved
loop-number-preserved c =
    so-far-next IsAway c.loop-number.number c.loop-number.count c.in_ok-flush.field-0 c.saturating_add-count.result c.args.network.now
    c.loop-number.network c.flush.new.self c.loop-number.invariant
    (subst (λ (n : ℕ). RestsAt IsAway n c.in_ok-flush.field-0 c.loop-number.network c.flush.new.self) c.new.ensures c.in_ok-flush.ensures)
    c.saturating_add-count.ensures
