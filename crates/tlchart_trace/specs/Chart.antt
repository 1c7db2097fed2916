-- The chart of a trace (this project's own).
use Rattle.std.specs.Prelude.{ℕ, List, Option}
use Rattle.tl_map.specs.Numbers.{Numbers}
use Rattle.tl_script_words.specs.declared.step.Step.{Step}
use Rattle.tl_text.specs.declared.trace.Trace.{Trace}
use Rattle.tlchart_model.specs.Chart.{IsChartOf}
use Rattle.tlchart_model.specs.declared.chart.Chart.{Chart}
use Rattle.tlchart_trace.specs.Turn.{turns_of}

-- A chart of a trace is that of what each of its steps did, over the clients and the banks of its geometry.
abbrev pub IsChart : Numbers → List Step → Trace → Option ℕ → Chart → Type 0
IsChart g steps trace asked chart = IsChartOf g.clients g.banks (turns_of g steps trace.answers.items) asked chart
