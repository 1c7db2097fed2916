-- Where a reader of a record's entries is, and what it reads next (this project's own format).
use Rattle.std.specs.Prelude.{◌≡◌, ℕ, ◌+◌, ◌<◌, ◌≤◌, false, List, [], ◌∷◌, ◌++◌, length, Option, Some, None, IfSome, Result, Ok, Err}
use Rattle.std.specs.Io.BufRead.{strip_last}
use Rattle.tl_types.specs.declared.limits.TheConstants.{BLOCKS, BLOCK_BYTES}
use Rattle.tlcheck_rules.specs.declared.entry.Entry.{Entry}
use Rattle.tlcheck_record.specs.Words.{is_blank}
use Rattle.tlcheck_record.specs.declared.cause.Cause.{Cause}
use Rattle.tlcheck_record.specs.declared.cause.LineError.{LineError}
use Rattle.tlcheck_record.specs.declared.cause.LineError.TheVariants.{Wrong, Memory as no_memory}
use Rattle.tlcheck_record.specs.declared.header.Head.{Head}
use Rattle.tlcheck_reader.specs.EntriesState.{EntriesState}
use Rattle.tlcheck_reader.specs.Lines.{lines_of}
use Rattle.tlcheck_reader.specs.Reading.{Reading, fresh, shaped, going, after_line, reading_of}
use Rattle.tlcheck_reader.specs.Text.{IsEntryLine, IsLineOf, IsShort, IsUnreadable}
use Rattle.tlcheck_reader.specs.declared.entries.Opening.{Opening}
use Rattle.tlcheck_reader.specs.declared.entries.ReadFault.{ReadFault}
use Rattle.tlcheck_reader.specs.declared.entries.ReadFault.TheVariants.{Unreadable, Memory, File}

-- So many of its lines were read, and this is what they write; what is left of it is its other lines.
pub record HasRead (text left : List ℕ) (count : ℕ) (reading : Reading) : Type 0 where
  pub read : List (List ℕ)
  pub lines : lines_of text ≡ read ++ lines_of left
  pub reads : reading_of fresh read ≡ Ok reading
  pub number : length read ≡ count

-- The line with this number is not blank, and leads from what was read to this.
pub record IsLineFrom (text : List ℕ) (number : ℕ) (reading then_ : Reading) : Type 0 where
  pub line : List ℕ
  pub at : IsLineOf text number reading line
  pub full : is_blank (strip_last 10 line) ≡ false
  pub reads : after_line reading line ≡ Ok then_

-- A geometry is in the range of a judge, and has a client.
pub record IsFit (head : Head) : Type 0 where
  pub clients : 0 < head.shape.clients
  pub some : 0 < head.shape.block_bytes
  pub bytes : head.shape.block_bytes ≤ BLOCK_BYTES
  pub blocks : head.shape.blocks ≤ BLOCKS

-- the entries that were read and not given out
abbrev pub waiting : Option Entry → List Entry
waiting None = []
waiting (Some entry) = entry ∷ []

-- what so many lines write was read, where the bytes of a reader are known
abbrev pub IsRead : Option (List ℕ) → Option (List ℕ) → ℕ → Reading → Type 0
IsRead known now count reading = IfSome known (λ text. (left : List ℕ) × (now ≡ Some left) × HasRead text left count reading)

-- the entry on the line with this number is the first, and stands behind the geometry
abbrev pub IsFirstEntry : List ℕ → ℕ → Head → List ℕ → List Entry → Entry → Type 0
IsFirstEntry text number head image entries entry =
    (entries ≡ []) × IsLineFrom text number (shaped head) (going head image (entry ∷ []))

-- These entries were given out.
pub record Gave (text : List ℕ) (now : Option (List ℕ)) (at : EntriesState) (head : Head) (image : List ℕ) (entries : List Entry) : Type 0 where
  pub left : List ℕ
  pub now_ : now ≡ Some left
  pub read : HasRead text left at.number (going head image (entries ++ waiting at.first))
  pub waits : IfSome at.first (λ entry. IsFirstEntry text at.number head image entries entry)

-- these entries were given out, where the bytes of a reader are known
abbrev pub IsAmong : Option (List ℕ) → Option (List ℕ) → EntriesState → Head → List ℕ → List Entry → Type 0
IsAmong known now at head image entries = IfSome known (λ text. Gave text now at head image entries)

-- why a record is not read on, where this holds of what was read
abbrev pub IsReadFault : Option (List ℕ) → (Reading → Type 0) → ReadFault → Type 0
IsReadFault known Read (Unreadable line cause) = IfSome known (λ text. (bad : IsUnreadable text line cause) × Read bad.reading)
IsReadFault known Read Memory = Unit {0}
IsReadFault known Read File = Unit {0}

-- what a record says before its entries, of which none was given out; or that it has neither image nor entry
abbrev pub IsOpening : Option (List ℕ) → Option (List ℕ) → Result (Option Opening) ReadFault → Type 0
IsOpening known now (Ok (Some opening)) = IsAmong known now opening.entries opening.head opening.image.items []
IsOpening known now (Ok None) =
    IfSome known (λ text. (reading : Reading) × (reading_of fresh (lines_of text) ≡ Ok reading) × IsShort reading)
IsOpening known now (Err fault) = IsReadFault known IsShort fault

-- the next entry, with the number of its line; or that there is none
abbrev pub IsNext : Option (List ℕ) → Option (List ℕ) → EntriesState → Head → List ℕ → List Entry → Result (Option Entry) ReadFault → Type 0
IsNext known now at head image entries (Ok (Some entry)) =
    IsAmong known now at head image (entries ++ entry ∷ [])
    × IfSome known (λ text. IsEntryLine text at.number head image entries entry)
IsNext known now at head image entries (Ok None) =
    IfSome known (λ text. reading_of fresh (lines_of text) ≡ Ok (going head image entries))
IsNext known now at head image entries (Err fault) = IsReadFault known (λ reading. reading ≡ going head image entries) fault

-- ## Lines

-- no line was read
abbrev pub IsNoLine : ReadFault → Type 0
IsNoLine (Unreadable line cause) = ⊥
IsNoLine Memory = Unit {0}
IsNoLine File = Unit {0}

-- what a line is that could not be read
abbrev pub not_read : ℕ → LineError → ReadFault
not_read number (Wrong cause) = Unreadable number cause
not_read number no_memory = Memory

-- the line with this number cannot be read, for that cause
abbrev pub IsUnreadHere : {A : Type 0} → ℕ → Result A Cause → ReadFault → Type 0
IsUnreadHere number value (Unreadable line cause) = (line ≡ number) × (value ≡ Err cause)
IsUnreadHere number value Memory = Unit {0}
IsUnreadHere number value File = ⊥

-- The line was read behind those that lead to what was read, and it is not blank.
pub record IsFullAt (text : List ℕ) (now : Option (List ℕ)) (number : ℕ) (reading : Reading) (line : List ℕ) : Type 0 where
  pub left : List ℕ
  pub now_ : now ≡ Some left
  pub read : List (List ℕ)
  pub lines : lines_of text ≡ read ++ line ∷ lines_of left
  pub reads : reading_of fresh read ≡ Ok reading
  pub number_ : length read + 1 ≡ number
  pub full : is_blank (strip_last 10 line) ≡ false

-- the next line that is not blank, or that there is none
abbrev pub IsFullNext : Option (List ℕ) → Option (List ℕ) → Reading → List ℕ → Result (Option ℕ) ReadFault → Type 0
IsFullNext known now reading line (Ok (Some number)) = IfSome known (λ text. IsFullAt text now number reading line)
IsFullNext known now reading line (Ok None) = IfSome known (λ text. reading_of fresh (lines_of text) ≡ Ok reading)
IsFullNext known now reading line (Err fault) = IsNoLine fault

-- what the first line says; or that there is none
abbrev pub IsFirst : Option (List ℕ) → Option (List ℕ) → Result (Option (ℕ × Head)) ReadFault → Type 0
IsFirst known now (Ok (Some first)) = IsRead known now first.0 (shaped first.1)
IsFirst known now (Ok None) = IfSome known (λ text. reading_of fresh (lines_of text) ≡ Ok fresh)
IsFirst known now (Err fault) = IsReadFault known IsShort fault
