-- What is written where a chart is asked for, and the status (this project's own format).
use Rattle.std.specs.Prelude.{◌≡◌, ◌≢◌, ℕ, Bool, true, false, List, [], ◌++◌, Option, codes}
use Rattle.std.specs.Option.{is_some}
use Rattle.tl_streams.specs.Written.{AppendsBeginning}
use Rattle.tlwire_answer.specs.Ending.{fault_text, status_of}
use Rattle.tlwire_answer.specs.declared.ending.Ending.{Ending}
use Rattle.tlwire_answer.specs.declared.ending.Ending.TheVariants.{Usage, Answered, Wrong as WrongLine, Empty, Memory, File}
use Rattle.tlwire_answer.specs.declared.verdict.Verdict.{Verdict}
use Rattle.tlwire_answer.specs.declared.verdict.Verdict.TheVariants.{Explained, Impossible, RuledOut, NotDecided, OtherOrder, Unmet}
use Rattle.tlwire_answer.specs.declared.waits.Unmet.TheVariants.{TooLong, NotQuiet}
use Rattle.tlwire_chart.specs.Ends.{broken_at}

-- why nothing is drawn of what was said of a record
abbrev pub verdict_words : Verdict → List ℕ
verdict_words (Explained events) = codes "error 61 no chart: the record is explained"
verdict_words (Impossible wrong) = []
verdict_words (RuledOut stuck) = []
verdict_words (NotDecided place limit sets) = codes "error 61 no chart: the record is not decided"
verdict_words (OtherOrder order sets) = codes "error 61 no chart: the record is not decided"
verdict_words (Unmet (TooLong opened)) = codes "error 61 no chart: an exchange is open for too long"
verdict_words (Unmet (NotQuiet opened)) = codes "error 61 no chart: an exchange is open at the end"

-- a line of it is impossible
abbrev pub is_broken : Ending → Bool
is_broken Usage = false
is_broken (Answered messages verdict) = is_some (broken_at verdict)
is_broken (WrongLine line cause) = false
is_broken Empty = false
is_broken Memory = false
is_broken File = false

-- the same of an ending
abbrev pub words_of : Ending → List ℕ
words_of Usage = fault_text Usage
words_of (Answered messages verdict) = verdict_words verdict
words_of (WrongLine line cause) = fault_text (WrongLine line cause)
words_of Empty = fault_text Empty
words_of Memory = fault_text Memory
words_of File = fault_text File

-- A line says why nothing is drawn, as far as the faults take it, and the output is as it was, unless it could not be written.
pub record IsNoChart (ending : Ending) (output output_new faults faults_new : Option (List ℕ)) : Type 0 where
  pub line : AppendsBeginning faults faults_new (words_of ending ++ codes "\n")
  pub nothing : status_of ending ≢ 5 → output_new ≡ output

-- Where a line is impossible nothing is added to the faults; in every other case a line says why nothing is drawn.
pub record IsChartTold (ending : Ending) (output output_new faults faults_new : Option (List ℕ)) : Type 0 where
  pub drawn : is_broken ending ≡ true → faults_new ≡ faults
  pub nothing : is_broken ending ≡ false → IsNoChart ending output output_new faults faults_new
