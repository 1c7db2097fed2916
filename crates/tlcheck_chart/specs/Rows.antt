-- Which lines of a record of events a chart has (this project's own).
use Rattle.std.specs.Prelude.{ℕ, suc, ◌+◌, ◌==◌, Bool, false, List, [], ◌∷◌, length, Option, Some, None, Result, Ok, Err, if◌then◌else◌}
use Rattle.std.specs.List.{slice_split}
use Rattle.tl_protocol.specs.Protocol.{block_of}
use Rattle.tl_protocol.specs.declared.shape.Shape.{Shape}
use Rattle.tlcheck_record.specs.Cause.{◌>>=◌}
use Rattle.tlcheck_record.specs.Entry.{entry_of}
use Rattle.tlcheck_record.specs.Header.{head_of as head_written}
use Rattle.tlcheck_record.specs.Reason.{breaks_text}
use Rattle.tlcheck_record.specs.Words.{is_blank, text_in}
use Rattle.tlcheck_record.specs.declared.cause.Cause.{Cause}
use Rattle.tlcheck_record.specs.declared.header.Head.{Head}
use Rattle.tlcheck_rules.specs.declared.entry.Entry.{Entry}
use Rattle.tlcheck_rules.specs.declared.judge.Breach.{Breach}
use Rattle.tlchart_draw.specs.Strip.{IsStrip}
use Rattle.tlchart_draw.specs.declared.strip.Strip.{Strip}

-- the lines of a text, without their line feeds
abbrev pub lines_of : List ℕ → List (List ℕ)
lines_of text = slice_split (λ byte. byte == 10) text

-- the lines from the first one on that says something
abbrev pub said : List (List ℕ) → List (List ℕ)
said [] = []
said (line ∷ rest) = if is_blank line then said rest else line ∷ rest

-- the geometry and the order of a text that was read
abbrev pub head_read : Result Head Cause → Option Head
head_read (Ok head) = Some head
head_read (Err cause) = None

-- the geometry and the order that a line writes, if it writes them
abbrev pub head_of : List ℕ → Option Head
head_of line = head_read (text_in line >>= (λ text. head_written text))

-- those of the first of some lines
abbrev pub first_head : List (List ℕ) → Option Head
first_head [] = None
first_head (line ∷ rest) = head_of line

-- the geometry and the order of a record that begins with these lines: the first one that says something writes them
abbrev pub record_head : List (List ℕ) → Option Head
record_head lines = first_head (said lines)

-- an entry is of a block
abbrev pub is_of : Shape → ℕ → Result Entry Cause → Bool
is_of shape block (Ok entry) = block_of shape entry.event == block
is_of shape block (Err cause) = false

-- a line writes an entry of a block
abbrev pub writes : Shape → ℕ → List ℕ → Bool
writes shape block line = is_of shape block (text_in line >>= (λ text. entry_of text))

-- the numbers of the lines that write an entry of a block, the first line with this number
abbrev pub numbers_of : Shape → ℕ → ℕ → List (List ℕ) → List ℕ
numbers_of shape block number [] = []
numbers_of shape block number (line ∷ rest) =
    if writes shape block line then number ∷ numbers_of shape block (suc number) rest else numbers_of shape block (suc number) rest

-- A chart of an entry behind some lines that breaks something: of the lines with entries of its block, as far as they are drawn, and of
-- the entry's, marked with what it breaks.
abbrev pub IsStripOf : Shape → List (List ℕ) → ℕ → Breach → Strip → Type 0
IsStripOf shape lines block breach strip =
    IsStrip (numbers_of shape block 1 lines) (length lines + 1) (breaks_text breach) strip.rows.items
