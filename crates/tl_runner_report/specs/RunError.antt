-- Why a run gave no report: what it prints, and when it is told (this project's own).
use Rattle.std.specs.Prelude.{◌≡◌, ℕ, List, ◌++◌, codes, decimal}
use Rattle.tl_streams.specs.Fault.{program_fault_text}
use Rattle.tl_streams.specs.declared.fault.ProgramFault.TheVariants as program
use Rattle.tl_runner_report.specs.declared.error.RunError.{RunError}
use Rattle.tl_runner_report.specs.declared.error.RunError.TheVariants.{Stalled, Memory, NotOrdered, Shares}

-- why a run gave no report, as it prints
abbrev pub run_error_text : RunError → List ℕ
run_error_text (Stalled turns) = codes "error 40 stalled " ++ decimal turns
run_error_text Memory = program_fault_text program.Memory
run_error_text NotOrdered = codes "error 42 not ordered"
run_error_text Shares = codes "error 43 shares"

-- where this is a stall, it is told with this number of turns
abbrev pub TellsTurns : ℕ → RunError → Type 0
TellsTurns turns (Stalled made) = made ≡ turns
TellsTurns turns Memory = Unit {0}
TellsTurns turns NotOrdered = Unit {0}
TellsTurns turns Shares = Unit {0}
