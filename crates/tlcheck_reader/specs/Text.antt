-- What a text writes: an entry on a line, no entry, or a line that cannot be read (this project's own format).
use Rattle.std.specs.Prelude.{◌≡◌, ℕ, ◌+◌, false, List, [], ◌∷◌, ◌++◌, length, Result, Ok, Err}
use Rattle.std.specs.Io.BufRead.{strip_last}
use Rattle.tlcheck_rules.specs.declared.entry.Entry.{Entry}
use Rattle.tlcheck_record.specs.Words.{is_blank}
use Rattle.tlcheck_record.specs.declared.cause.Cause.{Cause}
use Rattle.tlcheck_record.specs.declared.header.Head.{Head}
use Rattle.tlcheck_reader.specs.Lines.{lines_of}
use Rattle.tlcheck_reader.specs.Reading.{Reading, fresh, shaped, going, after_line, reading_of}

-- The line has this number, and those before it lead to what was read.
pub record IsLineOf (text : List ℕ) (number : ℕ) (reading : Reading) (line : List ℕ) : Type 0 where
  pub read : List (List ℕ)
  pub rest : List (List ℕ)
  pub lines : lines_of text ≡ read ++ line ∷ rest
  pub reads : reading_of fresh read ≡ Ok reading
  pub numbered : length read + 1 ≡ number

-- The line with this number is not blank, and leads to this after those before it.
pub record IsFullLine (text : List ℕ) (number : ℕ) (then_ : Result Reading Cause) : Type 0 where
  pub reading : Reading
  pub line : List ℕ
  pub at : IsLineOf text number reading line
  pub full : is_blank (strip_last 10 line) ≡ false
  pub reads : after_line reading line ≡ then_

-- the line with this number writes that entry after these
abbrev pub IsEntryLine : List ℕ → ℕ → Head → List ℕ → List Entry → Entry → Type 0
IsEntryLine text number head image entries entry =
    IsFullLine text number (Ok (going head image (entries ++ entry ∷ [])))

-- A line cannot be read, for this cause, and those before it can.
pub record IsUnreadable (text : List ℕ) (line : ℕ) (cause : Cause) : Type 0 where
  pub reading : Reading
  pub bad : List ℕ
  pub read : List (List ℕ)
  pub rest : List (List ℕ)
  pub lines : lines_of text ≡ read ++ bad ∷ rest
  pub reads : reading_of fresh read ≡ Ok reading
  pub outside : after_line reading bad ≡ Err cause
  pub number : length read + 1 ≡ line

-- neither image nor entry was read
abbrev pub IsShort : Reading → Type 0
IsShort fresh = Unit {0}
IsShort (shaped head) = Unit {0}
IsShort (going head image entries) = ⊥
