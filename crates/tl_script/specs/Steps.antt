-- The steps of a script (this project's own format).
use Rattle.std.specs.Prelude.{ℕ, List, [], Option, Some, None, Result, Ok}
use Rattle.toml.specs.Data.{Data, Members, get_member}
use Rattle.tl_script_words.specs.declared.step.Step.{Step}
use Rattle.tl_script_words.specs.Step.{step_of}
use Rattle.tl_script.specs.declared.key.Key.TheVariants as key
use Rattle.tl_script.specs.declared.error.ScriptError.{ScriptError}
use Rattle.tl_script.specs.declared.error.ScriptError.TheVariants as error
use Rattle.tl_script.specs.Key.{name_of}
use Rattle.tl_script.specs.Each.{or_fault, each}
use Rattle.tl_script.specs.Document.{texts_in}

-- the texts of the steps, where there is a value
abbrev pub texts_at : Option Data → Result (List (List ℕ)) ScriptError
texts_at None = Ok []
texts_at (Some value) = texts_in key.Steps value

-- the texts of the steps
unfoldable pub step_texts_of : Members → Result (List (List ℕ)) ScriptError
step_texts_of document = texts_at (get_member (name_of key.Steps) document)

-- the step, or else the fault of its index
abbrev pub or_step : ℕ → Option Step → Result Step ScriptError
or_step index step = or_fault (error.Step index) step

-- the step at an index
unfoldable pub step_at : ℕ → List ℕ → Result Step ScriptError
step_at index text = or_step index (step_of text)

-- the steps of a trace
unfoldable pub steps_of : List (List ℕ) → Result (List Step) ScriptError
steps_of texts = each step_at 0 texts
