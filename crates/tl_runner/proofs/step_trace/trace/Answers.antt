use Rattle.std.proofs.Common.{ℕ, List, subst}
use Rattle.tl_map.specs.Numbers.{Numbers}
use Rattle.tl_script_words.specs.declared.step.Step.{Step}
use Rattle.tl_trace.specs.NetworkSteps.{IsTrace}
use Rattle.tl_runner.proofs.step_trace.trace.Goals as goal

-- the script's numbers make the geometry, and its image and steps were played
pub returns : goal.returns
returns c =
    let script = c.args.script.now in
    let played = c.in_ok-played.played in
    record {
      text = (
        played,
        subst (λ (g : Numbers). IsTrace g script.image.items script.steps.items played) c.geometry.ensures.is
            (subst (λ (image : List ℕ). IsTrace c.geometry.result image script.steps.items played) c.deref.ensures.value
            (subst (λ (steps : List Step). IsTrace c.geometry.result c.deref.result.now steps played) c.deref-2.ensures.value
            c.in_ok-played.ensures)),
        c.in_ok-text.ensures,
      );
      memory = tt;
    }
