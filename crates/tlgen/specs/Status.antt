-- What each fault prints, and its status (this project's own).
use Rattle.std.specs.Prelude.{ℕ, List, codes}
use Rattle.tl_streams.specs.Fault.{fault_of_words as program_fault_of_words, program_fault_status, program_fault_text}
use Rattle.tl_streams.specs.declared.command_line.WordsError.{WordsError}
use Rattle.tl_script.specs.ScriptError.{script_error_status, script_error_text}
use Rattle.tlgen.specs.declared.fault.Fault.{Fault}
use Rattle.tlgen.specs.declared.fault.Fault.TheVariants.{Program, Script, Refusals}

-- the fault of words that are no request
abbrev pub fault_of_words : WordsError → Fault
fault_of_words error = Program (program_fault_of_words error)

-- a fault as it prints
abbrev pub fault_text : Fault → List ℕ
fault_text (Program fault) = program_fault_text fault
fault_text (Script error) = script_error_text error
fault_text Refusals = codes "error 61 refusals"

-- other refusals than were told end with 3, each other fault as in every program
abbrev pub status_of : Fault → ℕ
status_of (Program fault) = program_fault_status fault
status_of (Script error) = script_error_status error
status_of Refusals = 3
