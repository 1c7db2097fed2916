use Rattle.std.proofs.Common.{ap, sym, ◌∙◌}
use Rattle.tl_script_words.specs.Words.{texts}
use Rattle.tl_script.specs.Steps.{steps_of}
use Rattle.tl_script.specs.Commands.{commands}
use Rattle.tl_script.proofs.ScriptLemmas.{inside_of, each_client, all_fit_of, few}
use Rattle.tl_script.proofs.reading.script.Goals as goal

pub invariant_of-result : goal.invariant_of-result
invariant_of-result c = record {
  made = c.in_ok-geometry.ensures;
  inside = inside_of c.in_ok-geometry.geometry _ c.in_ok-image.image.items c.in_ok-image.ensures;
  each_client = each_client c.in_ok-geometry.geometry _ _ c.in_ok-commands.commands.items c.in_ok-commands.ensures;
  placed = all_fit_of c.in_ok-geometry.geometry _ _ (commands c.in_ok-commands.commands.items) c.in_ok-commands.ensures;
  few = few c.in_ok-geometry.geometry _ _ _ c.in_ok-steps.steps.items c.in_ok-commands.ensures
      (ap (λ all. steps_of (texts all)) (c.deref.ensures.value ∙ sym c.deref-2.ensures.value) ∙ c.in_ok-steps.ensures);
}
