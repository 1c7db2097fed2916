-- What is said where a record is not counted to its end (this project's own).
use Rattle.std.specs.Prelude.{ℕ, List}
use Rattle.tlcheck_reader.specs.Outcome.{IsOutcome}
use Rattle.tlcheck_reader.specs.declared.entries.ReadFault.{ReadFault}
use Rattle.tlcheck_reader.specs.declared.entries.ReadFault.TheVariants as read
use Rattle.tlcheck_reader.specs.declared.outcome.Outcome.{Outcome}
use Rattle.tlcheck_reader.specs.declared.outcome.Outcome.TheVariants.{Lawful, Broken, Unreadable, Empty}
use Rattle.tlcheck_coverage.specs.declared.reading.Fault.{Fault}
use Rattle.tlcheck_coverage.specs.declared.reading.Fault.TheVariants as fault

-- a record that is refused is not lawful, or cannot be read as one
abbrev pub IsRefusal : Outcome → Type 0
IsRefusal (Lawful judge count) = ⊥
IsRefusal (Broken line broken) = Unit {0}
IsRefusal (Unreadable line cause) = Unit {0}
IsRefusal Empty = Unit {0}

-- a fault that is no refusal of the record
abbrev pub IsNoRefusal : Fault → Type 0
IsNoRefusal (fault.Refused outcome) = ⊥
IsNoRefusal fault.Memory = Unit {0}
IsNoRefusal fault.File = Unit {0}
IsNoRefusal fault.NotSearched = Unit {0}

-- what is said where a record is not read on
abbrev pub fault_of : ReadFault → Fault
fault_of (read.Unreadable line cause) = fault.Refused (Unreadable line cause)
fault_of read.Memory = fault.Memory
fault_of read.File = fault.File

-- what a fault says of a text: what a check of it says, where it is refused
abbrev pub IsFaultOf : List ℕ → Fault → Type 0
IsFaultOf text (fault.Refused outcome) = IsOutcome text outcome × IsRefusal outcome
IsFaultOf text fault.Memory = Unit {0}
IsFaultOf text fault.File = Unit {0}
IsFaultOf text fault.NotSearched = Unit {0}
