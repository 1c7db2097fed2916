use Rattle.std.proofs.Common.{ℕ, subst}
use Rattle.tl_bank_spec.specs.Views.{IsQuiet}
use Rattle.tl_trace.specs.Rests.{RestsAt}
use Rattle.tl_embed.proofs.Resting.{so-far-next}
use Rattle.tl_embed.proofs.rest.drain_all.Goals as goal

-- one bank more
pub loop-number-preserved : goal.loop-number-preserved
loop-number-preserved c =
    so-far-next IsQuiet c.loop-number.number c.loop-number.count c.in_ok-drain.field-0 c.saturating_add-count.result c.args.network.now
    c.loop-number.network c.drain.new.self c.loop-number.invariant
    (subst (λ (n : ℕ). RestsAt IsQuiet n c.in_ok-drain.field-0 c.loop-number.network c.drain.new.self) c.new.ensures c.in_ok-drain.ensures)
    c.saturating_add-count.ensures
