-- What a job is answered with (this project's own).
use Rattle.std.specs.Prelude.{◌≡◌, ℕ, Bool, true, false, List, Option, Ok, IfSome}
use Rattle.tl_runner_report.specs.Conclusion.{IsRunReport}
use Rattle.tl_text.specs.Report.{report_text}
use Rattle.tl_text.specs.declared.report.Report.{Report}
use Rattle.tl_runner.specs.Trace.{IsTraceOf}
use Rattle.tl_script.specs.Script.{read_of, value_of}
use Rattle.tl_script.specs.declared.script.Script.{Script}

-- The text of a report of a run of the script.
abbrev pub IsReportText : Script → List ℕ → Type 0
IsReportText script text = (report : Report) × IsRunReport script report × (text ≡ report_text report)

-- what a script is answered with: by `trace` with a trace, by `run` with a report
abbrev pub IsTextOf : Bool → Script → List ℕ → Type 0
IsTextOf true script text = IsTraceOf script text
IsTextOf false script text = IsReportText script text

-- The text, by `trace` or by `run`, of the script that the file's bytes write, where those are known.
abbrev pub IsAnswerTo : Bool → Option (List ℕ) → List ℕ → Type 0
IsAnswerTo traces bytes text =
    (script : Script) × IfSome bytes (λ known. read_of known ≡ Ok (value_of script)) × IsTextOf traces script text
