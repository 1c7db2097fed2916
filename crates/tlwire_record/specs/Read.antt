-- What a reader answers of a record of messages.
use Rattle.std.specs.Prelude.{◌≡◌, ℕ, List, Result, Ok, Err}
use Rattle.tlwire_record.specs.Messages.{MessagesState}
use Rattle.tlwire_record.specs.Reading.{after_lines}
use Rattle.tlwire_record.specs.declared.record.ReadFault.{ReadFault}
use Rattle.tlwire_record.specs.declared.record.ReadFault.TheVariants.{Line, Empty, Memory}
use Rattle.tlwire_record.specs.declared.stage.Stage.{Stage}
use Rattle.tlwire_record.specs.declared.stage.Stage.TheVariants.{Fresh, Titled, Shaped, Going}

-- all lines are in the format and lead there, or this is the first that is not
abbrev pub IsAfter : List (List ℕ) → Result Stage ReadFault → Type 0
IsAfter lines (Ok stage) = after_lines 0 Fresh lines ≡ Ok stage
IsAfter lines (Err (Line number cause)) = after_lines 0 Fresh lines ≡ Err (number, cause)
IsAfter lines (Err Empty) = ⊥
IsAfter lines (Err Memory) = Unit {0}

-- what is said at the end of a text
abbrev pub ending_of : Stage → Result MessagesState ReadFault
ending_of Fresh = Err Empty
ending_of Titled = Err Empty
ending_of (Shaped setting) = Err Empty
ending_of (Going messages) = Ok messages

-- All lines are in the format, and lead to what was seen; or to neither image nor message; or this is the first that is not in it.
abbrev pub IsRead : List (List ℕ) → Result MessagesState ReadFault → Type 0
IsRead lines (Ok messages) = after_lines 0 Fresh lines ≡ Ok (Going messages)
IsRead lines (Err (Line number cause)) = after_lines 0 Fresh lines ≡ Err (number, cause)
IsRead lines (Err Empty) = (stage : Stage) × (after_lines 0 Fresh lines ≡ Ok stage) × (ending_of stage ≡ Err Empty)
IsRead lines (Err Memory) = Unit {0}
