use Rattle.std.proofs.Common.{◌⊎◌, inl, ℕ, subst}
use Rattle.tl_script_words.specs.declared.step.Step.{Step}
use Rattle.tl_script_words.specs.declared.step.Step.TheVariants.{Load}
use Rattle.tl_text.specs.declared.answer.Answer.TheVariants.{Loaded}
use Rattle.tl_trace.specs.NetworkSteps.{IsNetworkStep}
use Rattle.tl_embed.specs.Calls.{IsPlayed, IsStarved}
use Rattle.tl_embed.specs.Told.{wide}
use Rattle.tl_embed.proofs.Widths.{refused-asks}
use Rattle.tl_embed.proofs.access.short_load.Goals as goal

-- the bytes are told
pub returns-in-Ok : goal.returns-in-Ok
returns-in-Ok c =
    let step : ℕ → Step = λ client. Load client c.args.request.now.place c.args.request.now.len in
    inl (record {
      shown = Loaded c.in-Ok.bytes;
      does =
          subst (λ (client : ℕ). IsNetworkStep c.args.request.now.index (step client) c.args.network.now c.load.new.self (Loaded c.in-Ok.bytes))
          c.new-client.ensures c.in-Ok.ensures.done;
      tells = c.loaded.ensures;
    })

-- a refusal is told
pub returns-in-Err : goal.returns-in-Err
returns-in-Err c =
    let step : ℕ → Step = λ client. Load client c.args.request.now.place c.args.request.now.len in
    subst (λ (client : ℕ). IsPlayed c.args.request.now.index (step client) c.args.network.now c.load.new.self (wide c.refused.result)
    ⊎ IsStarved (step client) c.args.network.now c.load.new.self (wide c.refused.result))
    c.new-client.ensures (refused-asks c.in-Err.refusal _ _ _ _ _ c.in-Err.ensures.refused c.refused.ensures)
