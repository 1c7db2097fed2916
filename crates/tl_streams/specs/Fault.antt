-- What every program may end with, how it is told, and its status (this project's own).
use Rattle.std.specs.Prelude.{ℕ, List, codes}
use Rattle.tl_streams.specs.declared.command_line.WordsError.{WordsError}
use Rattle.tl_streams.specs.declared.command_line.WordsError.TheVariants as words
use Rattle.tl_streams.specs.declared.reading.ReadError.{ReadError}
use Rattle.tl_streams.specs.declared.reading.ReadError.TheVariants as read
use Rattle.tl_streams.specs.declared.fault.ProgramFault.{ProgramFault}
use Rattle.tl_streams.specs.declared.fault.ProgramFault.TheVariants.{Usage, File, Memory}

-- words that ask for nothing end as usage, or for want of memory
abbrev pub fault_of_words : WordsError → ProgramFault
fault_of_words words.Usage = Usage
fault_of_words words.Memory = Memory

-- a file that is not read to its end ends as a file, or for want of memory
abbrev pub fault_of_read : ReadError → ProgramFault
fault_of_read read.Memory = Memory
fault_of_read read.File = File

-- a fault as it prints
abbrev pub program_fault_text : ProgramFault → List ℕ
program_fault_text Usage = codes "error usage"
program_fault_text File = codes "error file"
program_fault_text Memory = codes "error 41 memory"

-- usage ends with 2, want of memory with 4, the file with 5
abbrev pub program_fault_status : ProgramFault → ℕ
program_fault_status Usage = 2
program_fault_status File = 5
program_fault_status Memory = 4
