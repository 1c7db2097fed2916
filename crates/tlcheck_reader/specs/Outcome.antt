-- What a check of a record's text answers.
use Rattle.std.specs.Prelude.{◌≡◌, ℕ, ◌+◌, List, [], ◌∷◌, ◌++◌, length, Option, IfSome, Result, Ok, Err}
use Rattle.tl_protocol.specs.Protocol.{block_of}
use Rattle.tlcheck_rules.specs.Judged.{Breaks, Follows, IsLawful, JudgeState, events_of}
use Rattle.tlcheck_rules.specs.declared.entry.Entry.{Entry}
use Rattle.tlcheck_rules.specs.declared.judge.Breach.{Breach}
use Rattle.tlcheck_record.specs.declared.header.Head.{Head}
use Rattle.tlcheck_reader.specs.Lines.{lines_of}
use Rattle.tlcheck_reader.specs.Reading.{Reading, fresh, going, reading_of}
use Rattle.tlcheck_reader.specs.Text.{IsShort, IsUnreadable}
use Rattle.tlcheck_reader.specs.declared.entries.ReadFault.{ReadFault}
use Rattle.tlcheck_reader.specs.declared.entries.ReadFault.TheVariants as read
use Rattle.tlcheck_reader.specs.declared.outcome.BrokenEntry.{BrokenEntry}
use Rattle.tlcheck_reader.specs.declared.outcome.Outcome.{Outcome}
use Rattle.tlcheck_reader.specs.declared.outcome.Outcome.TheVariants.{Lawful, Broken, Unreadable, Empty}

-- The entry breaks just this after those entries; it has that number and is of that block, and the judge follows those before it.
pub record Stops (head : Head) (image : List ℕ) (entries : List Entry) (entry : Entry) (broken : BrokenEntry) : Type 0 where
  pub breaks : Breaks head.order head.shape image (events_of entries) entry broken.breach
  pub counted : length entries + 1 ≡ broken.number
  pub block : block_of head.shape entry.event ≡ broken.block
  pub before : Follows head.order head.shape image (events_of entries) broken.judge

-- that entry, with its block
abbrev pub broken_at : JudgeState → Entry → ℕ → Breach → BrokenEntry
broken_at judge entry number breach =
    record { judge = judge; block = block_of judge.plain.shape entry.event; number = number; breach = breach }

-- The record is read to its end, and each entry is permitted; the judge follows them.
pub record IsLawfulText (text : List ℕ) (judge : JudgeState) (count : ℕ) : Type 0 where
  pub head : Head
  pub image : List ℕ
  pub entries : List Entry
  pub reads : reading_of fresh (lines_of text) ≡ Ok (going head image entries)
  pub lawful : IsLawful head.order head.shape image entries
  pub counted : length entries ≡ count
  pub end : Follows head.order head.shape image (events_of entries) judge

-- So many lines write entries of which the last breaks something, and those before it are lawful.
pub record IsBrokenText (text : List ℕ) (line : ℕ) (broken : BrokenEntry) : Type 0 where
  pub head : Head
  pub image : List ℕ
  pub entries : List Entry
  pub entry : Entry
  pub read : List (List ℕ)
  pub rest : List (List ℕ)
  pub lines : lines_of text ≡ read ++ rest
  pub reads : reading_of fresh read ≡ Ok (going head image (entries ++ entry ∷ []))
  pub lawful : IsLawful head.order head.shape image entries
  pub stops : Stops head image entries entry broken
  pub number : length read ≡ line

-- what an outcome says of a text
abbrev pub IsOutcome : List ℕ → Outcome → Type 0
IsOutcome text (Lawful judge count) = IsLawfulText text judge count
IsOutcome text (Broken line broken) = IsBrokenText text line broken
IsOutcome text (Unreadable line cause) = IsUnreadable text line cause
IsOutcome text Empty = (reading : Reading) × (reading_of fresh (lines_of text) ≡ Ok reading) × IsShort reading

-- what a check says of a text, where its bytes are known: an outcome, or which line cannot be read
abbrev pub IsChecked : Option (List ℕ) → Result Outcome ReadFault → Type 0
IsChecked known (Ok outcome) = IfSome known (λ text. IsOutcome text outcome)
IsChecked known (Err (read.Unreadable line cause)) = IfSome known (λ text. IsUnreadable text line cause)
IsChecked known (Err read.Memory) = Unit {0}
IsChecked known (Err read.File) = Unit {0}
