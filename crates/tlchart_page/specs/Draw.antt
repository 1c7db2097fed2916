-- Which scripts are drawn, and why others are not (this project's own format).
use Rattle.std.specs.Prelude.{◌≡◌, ◌<◌, ◌≤◌, ℕ, List, ◌++◌, length, codes, decimal, Ok}
use Rattle.tl_script.specs.Each.{Fails}
use Rattle.tl_script.specs.Script.{read_of, value_of}
use Rattle.tl_script.specs.ScriptError.{script_error_text}
use Rattle.tl_script.specs.declared.script.Script.{Script as ScriptRead}
use Rattle.tl_streams.specs.Fault.{program_fault_text}
use Rattle.tl_streams.specs.declared.fault.ProgramFault.TheVariants as program
use Rattle.tlchart_page.specs.declared.draw.DrawError.{DrawError}
use Rattle.tlchart_page.specs.declared.draw.DrawError.TheVariants.{Script, TooMany, Memory}

-- the bytes write a script of so many steps
abbrev pub Writes : List ℕ → ℕ → Type 0
Writes bytes steps = (script : ScriptRead) × (read_of bytes ≡ Ok (value_of script)) × (length script.steps.items ≡ steps)

-- the bytes write a script of at most 200 steps
abbrev pub IsDrawn : List ℕ → Type 0
IsDrawn bytes = (steps : ℕ) × Writes bytes steps × (steps ≤ 200)

-- why there is no picture: the first thing that is wrong with the script, or more than 200 steps, or want of memory
abbrev pub IsWhy : List ℕ → DrawError → Type 0
IsWhy bytes (Script error) = Fails error (read_of bytes)
IsWhy bytes (TooMany steps) = Writes bytes steps × (200 < steps)
IsWhy bytes Memory = Unit {0}

-- the line of a fault
abbrev pub draw_error_text : DrawError → List ℕ
draw_error_text (Script error) = script_error_text error
draw_error_text (TooMany steps) = codes "error 60 " ++ decimal steps ++ codes " steps, at most 200 are drawn"
draw_error_text Memory = program_fault_text program.Memory
