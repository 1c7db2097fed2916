use Rattle.std.proofs.Common.{arith}
use Rattle.std.proofs.lemmas.Bool.{ltb-true, ltb-false}
use Rattle.tl_script_words.proofs.StepLemmas.{acquire_of-other}
use Rattle.tl_script_words.proofs.step.Step.acquire.Goals.{in_default-via-then-arguments-lt3, in_default-via-else-arguments-lt3+else-arguments-lt4}
use Rattle.tl_script_words.proofs.step.Step.acquire.Goals as goal

pub returns-in_default : goal.returns-in_default
returns-in_default c = acquire_of-other c.args.arguments.now (λ three. elim c.in_default.branch [
  | in_default-via-then-arguments-lt3 w ↦ omega (arith, three, ltb-true, ltb-false)
  | in_default-via-else-arguments-lt3+else-arguments-lt4 w ↦ omega (arith, three, ltb-true, ltb-false)
])
