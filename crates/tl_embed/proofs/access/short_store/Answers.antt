use Rattle.std.proofs.Common.{◌⊎◌, inl, ℕ, subst}
use Rattle.tl_script_words.specs.declared.step.Step.{Step}
use Rattle.tl_script_words.specs.declared.step.Step.TheVariants.{Store}
use Rattle.tl_text.specs.declared.answer.Answer.TheVariants.{Done}
use Rattle.tl_trace.specs.NetworkSteps.{IsNetworkStep}
use Rattle.tl_embed.specs.Calls.{IsPlayed, IsStarved}
use Rattle.tl_embed.specs.Told.{wide}
use Rattle.tl_embed.proofs.Widths.{refused-asks}
use Rattle.tl_embed.proofs.access.short_store.Goals as goal

-- nothing more is told
pub returns-in-Ok : goal.returns-in-Ok
returns-in-Ok c =
    let step : ℕ → Step = λ client. Store client c.args.request.now.place c.args.bytes.now in
    inl (record {
      shown = Done;
      does =
          subst (λ (client : ℕ). IsNetworkStep c.args.request.now.index (step client) c.args.network.now c.store.new.self Done)
          c.new-client.ensures c.in-Ok.ensures.done;
      tells = c.only.ensures;
    })

-- a refusal is told
pub returns-in-Err : goal.returns-in-Err
returns-in-Err c =
    let step : ℕ → Step = λ client. Store client c.args.request.now.place c.args.bytes.now in
    subst (λ (client : ℕ). IsPlayed c.args.request.now.index (step client) c.args.network.now c.store.new.self (wide c.refused.result)
    ⊎ IsStarved (step client) c.args.network.now c.store.new.self (wide c.refused.result))
    c.new-client.ensures (refused-asks c.in-Err.refusal _ _ _ _ _ c.in-Err.ensures.refused c.refused.ensures)
