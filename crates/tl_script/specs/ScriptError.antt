-- What the refusals of a script print, and their status (this project's own).
use Rattle.std.specs.Prelude.{ℕ, List, ◌++◌, codes, decimal}
use Rattle.tl_map.specs.Refusals.{refusal_number}
use Rattle.tl_streams.specs.Fault.{program_fault_status, program_fault_text}
use Rattle.tl_streams.specs.declared.fault.ProgramFault.TheVariants as program
use Rattle.tl_script.specs.Key.{name_of}
use Rattle.tl_script.specs.declared.error.ScriptError.{ScriptError}
use Rattle.tl_script.specs.declared.error.ScriptError.TheVariants.{NotToml, Missing, Geometry, Command, TooMany, Step, Memory}

-- a refusal as it prints, or want of memory
abbrev pub script_error_text : ScriptError → List ℕ
script_error_text NotToml = codes "error 30 not toml"
script_error_text (Missing key) = codes "error 31 missing " ++ name_of key
script_error_text (Geometry cause) = codes "error 32 geometry " ++ decimal (refusal_number cause)
script_error_text (Command client index) = codes "error 33 command " ++ decimal client ++ codes " " ++ decimal index
script_error_text TooMany = codes "error 34 too many"
script_error_text (Step index) = codes "error 35 step " ++ decimal index
script_error_text Memory = program_fault_text program.Memory

-- a script that is refused ends with 1, want of memory as in every program
abbrev pub script_error_status : ScriptError → ℕ
script_error_status Memory = program_fault_status program.Memory
script_error_status _ = 1
