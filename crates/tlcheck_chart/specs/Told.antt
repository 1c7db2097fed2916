-- What is written where a chart is asked for, and the status (this project's own format).
use Rattle.std.specs.Prelude.{◌≡◌, ◌≢◌, ℕ, List, ◌++◌, Option, codes}
use Rattle.tl_streams.specs.Written.{AppendsBeginning}
use Rattle.tlcheck_reader.specs.Ending.{ending_text, status_of}
use Rattle.tlcheck_reader.specs.declared.ending.Ending.{Ending}
use Rattle.tlcheck_reader.specs.declared.ending.Ending.TheVariants.{Usage, Judged, Memory, File}
use Rattle.tlcheck_reader.specs.declared.outcome.Outcome.{Outcome}
use Rattle.tlcheck_reader.specs.declared.outcome.Outcome.TheVariants.{Lawful, Broken, Unreadable, Empty}

-- why nothing is drawn of what was said of a record: it is lawful, or a fault
abbrev pub outcome_words : Outcome → List ℕ
outcome_words (Lawful judge count) = codes "error 61 no chart: the record is lawful"
outcome_words (Broken line broken) = ending_text (Judged (Broken line broken))
outcome_words (Unreadable line cause) = ending_text (Judged (Unreadable line cause))
outcome_words Empty = ending_text (Judged Empty)

-- the same of an ending
abbrev pub words_of : Ending → List ℕ
words_of Usage = ending_text Usage
words_of (Judged outcome) = outcome_words outcome
words_of Memory = ending_text Memory
words_of File = ending_text File

-- A line says why nothing is drawn, as far as the faults take it, and the output is as it was, unless it could not be written.
pub record IsNoChart (ending : Ending) (output output_new faults faults_new : Option (List ℕ)) : Type 0 where
  pub line : AppendsBeginning faults faults_new (words_of ending ++ codes "\n")
  pub nothing : status_of ending ≢ 5 → output_new ≡ output

-- Where an entry is not permitted nothing is added to the faults; in every other case a line says why nothing is drawn.
pub record IsChartTold (status : ℕ) (ending : Ending) (output output_new faults faults_new : Option (List ℕ)) : Type 0 where
  pub drawn : status ≡ 1 → faults_new ≡ faults
  pub nothing : status ≢ 1 → IsNoChart ending output output_new faults faults_new
