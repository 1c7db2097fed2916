-- What each fault prints, and its status (this project's own).
use Rattle.std.specs.Prelude.{ℕ, List}
use Rattle.tl_streams.specs.Fault.{fault_of_read as program_fault_of_read, fault_of_words as program_fault_of_words, program_fault_status, program_fault_text}
use Rattle.tl_streams.specs.declared.command_line.WordsError.{WordsError}
use Rattle.tl_streams.specs.declared.fault.ProgramFault.TheVariants as program
use Rattle.tl_streams.specs.declared.reading.ReadError.{ReadError}
use Rattle.tl_script.specs.ScriptError.{script_error_status}
use Rattle.tlchart_page.specs.Draw.{draw_error_text}
use Rattle.tlchart_page.specs.declared.draw.DrawError.{DrawError}
use Rattle.tlchart_page.specs.declared.draw.DrawError.TheVariants as draw
use Rattle.tlchart.specs.declared.fault.Fault.{Fault}
use Rattle.tlcheck_reader.specs.Ending.{ending_text, status_of as ending_status}
use Rattle.tlchart.specs.declared.fault.Fault.TheVariants.{Program, Draw, Record}

-- the fault of words that ask for nothing
abbrev pub fault_of_words : WordsError → Fault
fault_of_words error = Program (program_fault_of_words error)

-- the fault of a file that is not read to its end
abbrev pub fault_of_read : ReadError → Fault
fault_of_read error = Program (program_fault_of_read error)

-- too many steps end with 6
abbrev pub draw_status : DrawError → ℕ
draw_status (draw.Script error) = script_error_status error
draw_status (draw.TooMany steps) = 6
draw_status draw.Memory = program_fault_status program.Memory

-- a script that is not drawn ends as above, each other fault as in every program
abbrev pub status_of : Fault → ℕ
status_of (Program fault) = program_fault_status fault
status_of (Draw error) = draw_status error
status_of (Record ending) = ending_status ending

-- the line of a fault
abbrev pub fault_text : Fault → List ℕ
fault_text (Program fault) = program_fault_text fault
fault_text (Draw error) = draw_error_text error
fault_text (Record ending) = ending_text ending
