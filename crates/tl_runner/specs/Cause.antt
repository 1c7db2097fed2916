-- Which fault it is: that of the words, the file or the script (this project's own).
use Rattle.std.specs.Prelude.{◌≡◌, ℕ, Bool, false, List, Option, None, Some, Result, Ok, Err, IfSome}
use Rattle.tl_runner.specs.declared.asked.Job.{Job}
use Rattle.tl_streams.specs.declared.command_line.WordsError.{WordsError as JobError}
use Rattle.tl_streams.specs.declared.fault.ProgramFault.{ProgramFault}
use Rattle.tl_streams.specs.declared.fault.ProgramFault.TheVariants as program
use Rattle.tl_script.specs.declared.script.Script.{Script}
use Rattle.tl_script.specs.Each.{Fails}
use Rattle.tl_script.specs.Script.{read_of, value_of}
use Rattle.tl_runner_report.specs.RunError.{TellsTurns}
use Rattle.tl_runner_report.specs.declared.error.RunError.{RunError}
use Rattle.tl_runner_report.specs.declared.error.RunError.TheVariants as run
use Rattle.tl_runner.specs.Fault.{fault_of_job}
use Rattle.tl_runner.specs.declared.fault.Fault.{Fault}
use Rattle.tl_runner.specs.declared.fault.Fault.TheVariants as its

-- A run ends for want of memory, by a stall after the script's turns, or as its shares and accesses are; a trace for want of memory.
abbrev pub EndsRun : Bool → Script → RunError → Type 0
EndsRun traces script run.Memory = Unit {0}
EndsRun traces script error = (traces ≡ false) × TellsTurns script.turns error

-- A file that is there leads to no fault of the words; that a read or the writing fails, or memory is refused, is no matter of bytes.
abbrev pub MayFail : ProgramFault → Type 0
MayFail program.Usage = ⊥
MayFail program.File = Unit {0}
MayFail program.Memory = Unit {0}

-- A file leads to this fault: the refusal of the script that its bytes write, where they are known; or, where they write a script,
-- what ends its run or trace.
abbrev pub LeadsTo : Bool → Option (List ℕ) → Fault → Type 0
LeadsTo traces bytes (its.Program fault) = MayFail fault
LeadsTo traces bytes (its.Script error) = IfSome bytes (λ known. Fails error (read_of known))
LeadsTo traces bytes (its.Run error) =
    (script : Script) × IfSome bytes (λ known. read_of known ≡ Ok (value_of script)) × EndsRun traces script error

-- The fault is that of the words; else the file's, where there is none; else one that the file leads to.
abbrev pub IsFaultOf : Result Job JobError → Option (Option (List ℕ)) → Fault → Type 0
IsFaultOf (Err error) file fault = fault ≡ fault_of_job error
IsFaultOf (Ok asked) None fault = fault ≡ its.Program program.File
IsFaultOf (Ok asked) (Some bytes) fault = LeadsTo asked.traces bytes fault
