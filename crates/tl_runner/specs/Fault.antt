-- What each fault prints, and its status (this project's own).
use Rattle.std.specs.Prelude.{ℕ, List, ◌++◌, codes}
use Rattle.tl_streams.specs.Fault.{fault_of_read as program_fault_of_read, fault_of_words, program_fault_status, program_fault_text}
use Rattle.tl_streams.specs.declared.command_line.WordsError.{WordsError}
use Rattle.tl_streams.specs.declared.fault.ProgramFault.TheVariants as program
use Rattle.tl_streams.specs.declared.reading.ReadError.{ReadError}
use Rattle.tl_script.specs.ScriptError.{script_error_status, script_error_text}
use Rattle.tl_runner_report.specs.RunError.{run_error_text}
use Rattle.tl_runner_report.specs.declared.error.RunError.{RunError}
use Rattle.tl_runner_report.specs.declared.error.RunError.TheVariants.{Memory as r_Memory}
use Rattle.tl_runner.specs.declared.fault.Fault.{Fault}
use Rattle.tl_runner.specs.declared.fault.Fault.TheVariants.{Program, Script, Run}

-- the fault of words that are no job
abbrev pub fault_of_job : WordsError → Fault
fault_of_job error = Program (fault_of_words error)

-- the fault of a file that is not read to its end
abbrev pub fault_of_read : ReadError → Fault
fault_of_read error = Program (program_fault_of_read error)

-- a run that stalled, or whose shares or accesses are not right, ends with 3, want of memory as in every program
abbrev pub run_status : RunError → ℕ
run_status r_Memory = program_fault_status program.Memory
run_status _ = 3

-- a script and a run end as they do, each other fault as in every program
abbrev pub status_of : Fault → ℕ
status_of (Program f) = program_fault_status f
status_of (Script e) = script_error_status e
status_of (Run e) = run_status e

-- a fault as it prints
abbrev pub fault_text : Fault → List ℕ
fault_text (Program f) = program_fault_text f
fault_text (Script e) = script_error_text e
fault_text (Run e) = run_error_text e

-- the line of a fault
abbrev pub fault_line : Fault → List ℕ
fault_line fault = fault_text fault ++ codes "\n"
