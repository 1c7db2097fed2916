use Rattle.std.proofs.Common.{◌≡◌, drop}
use Rattle.tl_script_words.specs.Words.{texts}
use Rattle.tl_script.specs.Each.{each}
use Rattle.tl_script.specs.Steps.{step_at}
use Rattle.tl_script.proofs.EachLemmas.{with_front}
use Rattle.tl_script.proofs.steps.steps.Given as goal

abbrev pub invariant-loop-index : goal.invariant-loop-index
invariant-loop-index l = with_front l.steps.items (each step_at l.index (texts (drop l.index l.all))) ≡ each step_at 0 (texts l.all)
