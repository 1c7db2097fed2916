-- A trace, as text (this project's own format).
use Rattle.std.specs.Prelude.{ℕ, List, ◌++◌, codes, decimal}
use Rattle.tl_text.specs.Report.{lines_from}
use Rattle.tl_text.specs.Answer.{answer_text}
use Rattle.tl_text.specs.Closing.{closing_lines}
use Rattle.tl_text.specs.declared.answer.Answer.{Answer}
use Rattle.tl_text.specs.declared.trace.Trace.{Trace}

-- a step's index, and what it answered
abbrev pub answer_line : ℕ → Answer → List ℕ
answer_line index answer = decimal index ++ codes " " ++ answer_text answer ++ codes "\n"

-- the steps, the banks, and `end`
abbrev pub trace_text : Trace → List ℕ
trace_text t = lines_from answer_line 0 t.answers.items ++ lines_from closing_lines 0 t.banks.items ++ codes "end\n"
