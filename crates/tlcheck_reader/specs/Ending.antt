-- What the program ends with, what it prints then, and its status (this project's own format).
use Rattle.std.specs.Prelude.{◌≡◌, ◌≢◌, ◌<◌, ◌≤◌, ℕ, List, [], ◌++◌, Option, IfSome, codes, decimal}
use Rattle.std.specs.Io.KnownBytes.{Appends}
use Rattle.tlcheck_reader.specs.Outcome.{IsOutcome}
use Rattle.tlcheck_reader.specs.declared.outcome.Outcome.{Outcome}
use Rattle.tlcheck_reader.specs.declared.outcome.Outcome.TheVariants.{Lawful, Broken, Unreadable, Empty}
use Rattle.tlcheck_record.specs.Cause.{sentence}
use Rattle.tlcheck_record.specs.Reason.{reason_text}
use Rattle.tl_streams.specs.Fault.{program_fault_text}
use Rattle.tl_streams.specs.Written.{AppendsBeginning}
use Rattle.tl_streams.specs.declared.command_line.WordsError.{WordsError}
use Rattle.tl_streams.specs.declared.command_line.WordsError.TheVariants as words
use Rattle.tl_streams.specs.declared.fault.ProgramFault.TheVariants as program
use Rattle.tl_streams.specs.declared.reading.ReadError.{ReadError}
use Rattle.tl_streams.specs.declared.reading.ReadError.TheVariants as read
use Rattle.tlcheck_record.specs.State.{end_lines, state_lines}
use Rattle.tlcheck_reader.specs.declared.ending.Ending.{Ending}
use Rattle.tlcheck_reader.specs.declared.ending.Ending.TheVariants.{Usage, Judged, Memory, File}

-- the status of what was said of a record: 0 lawful, 1 not lawful, 3 not readable as a record
abbrev pub outcome_status : Outcome → ℕ
outcome_status (Lawful judge count) = 0
outcome_status (Broken line broken) = 1
outcome_status (Unreadable line cause) = 3
outcome_status Empty = 3

-- usage ends with 2, want of memory with 4, the file with 5
abbrev pub status_of : Ending → ℕ
status_of Usage = 2
status_of (Judged outcome) = outcome_status outcome
status_of Memory = 4
status_of File = 5

-- words that ask for nothing end as usage, or for want of memory
abbrev pub ending_of_words : WordsError → Ending
ending_of_words words.Usage = Usage
ending_of_words words.Memory = Memory

-- a file that is not read to its end ends as a file, or for want of memory
abbrev pub ending_of_read : ReadError → Ending
ending_of_read read.Memory = Memory
ending_of_read read.File = File

-- what was said of a record
abbrev pub outcome_text : Outcome → List ℕ
outcome_text (Lawful judge count) = codes "lawful: " ++ decimal count ++ codes " entries"
outcome_text (Broken line broken) =
    codes "not lawful: line " ++ decimal line ++ codes ", entry " ++ decimal broken.number ++ codes ": " ++ reason_text broken.breach
outcome_text (Unreadable line cause) = codes "error 50 line " ++ decimal line ++ codes ": " ++ sentence cause
outcome_text Empty = codes "error 51 empty"

-- what stands beside it: the state at the record's end, or before the entry that is not permitted, of the entry's block
abbrev pub beside : Outcome → List ℕ
beside (Lawful judge count) = end_lines judge.plain
beside (Broken line broken) = state_lines broken.judge.plain broken.block
beside (Unreadable line cause) = []
beside Empty = []

-- what the program ends with
abbrev pub ending_text : Ending → List ℕ
ending_text Usage = program_fault_text program.Usage
ending_text (Judged outcome) = outcome_text outcome
ending_text Memory = program_fault_text program.Memory
ending_text File = program_fault_text program.File

-- that, as a line
abbrev pub ending_line : Ending → List ℕ
ending_line ending = ending_text ending ++ codes "\n"

-- that line, and what stands beside it
abbrev pub ending_lines : Ending → List ℕ
ending_lines Usage = ending_line Usage
ending_lines (Judged outcome) = ending_line (Judged outcome) ++ beside outcome
ending_lines Memory = ending_line Memory
ending_lines File = ending_line File

-- What a check of a record may end with: what is said holds of the record's bytes, where those are known.
abbrev pub MayEnd : Option (List ℕ) → Ending → Type 0
MayEnd known Usage = ⊥
MayEnd known (Judged outcome) = IfSome known (λ text. IsOutcome text outcome)
MayEnd known Memory = Unit {0}
MayEnd known File = Unit {0}

-- What is told of an ending: it, or that there was no memory for its lines, or that they could not be written.
abbrev pub Tells : Ending → Ending → Type 0
Tells ending Usage = Usage ≡ ending
Tells ending (Judged outcome) = Judged outcome ≡ ending
Tells ending Memory = Unit {0}
Tells ending File = Unit {0}

-- A verdict stands in the output, with the state beside it, and nothing in the faults.
pub record IsVerdict (ending : Ending) (output output_new faults faults_new : Option (List ℕ)) : Type 0 where
  pub lines : Appends output output_new (ending_lines ending)
  pub quiet : faults_new ≡ faults

-- A fault stands in the faults, as far as they take it, and nothing in the output, unless that could not be written.
pub record IsFault (ending : Ending) (output output_new faults faults_new : Option (List ℕ)) : Type 0 where
  pub line : AppendsBeginning faults faults_new (ending_line ending)
  pub nothing : status_of ending ≢ 5 → output_new ≡ output

-- which of the two stands for a status
pub record IsTold (status : ℕ) (ending : Ending) (output output_new faults faults_new : Option (List ℕ)) : Type 0 where
  pub verdict : status ≤ 1 → IsVerdict ending output output_new faults faults_new
  pub fault : 1 < status → IsFault ending output output_new faults faults_new
