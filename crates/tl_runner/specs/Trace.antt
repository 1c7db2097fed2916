-- What a trace of a script prints (this project's own).
use Rattle.std.specs.Prelude.{◌≡◌, ℕ, List}
use Rattle.tl_script.specs.declared.script.Script.{Script}
use Rattle.tl_text.specs.Trace.{trace_text}
use Rattle.tl_text.specs.declared.trace.Trace.{Trace}
use Rattle.tl_trace.specs.NetworkSteps.{IsTrace}

-- The text of a trace of the script's steps, over banks of its numbers and its image.
abbrev pub IsTraceOf : Script → List ℕ → Type 0
IsTraceOf script text =
    (trace : Trace) × IsTrace script.geometry script.image.items script.steps.items trace
    × (text ≡ trace_text trace)
