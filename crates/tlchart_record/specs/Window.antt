-- The entries of a record that a page shows (this project's own).
use Rattle.std.specs.Prelude.{◌≡◌, ℕ, Bool, true, false, List, [], ◌∷◌, ◌++◌, length, take, drop, Ok}
use Rattle.tl_protocol.specs.declared.event.Event.{Event}
use Rattle.tlcheck_rules.specs.Judged.{Follows}
use Rattle.tlcheck_rules.specs.declared.entry.Entry.{Entry}
use Rattle.tlcheck_record.specs.declared.header.Head.{Head}
use Rattle.tlcheck_reader.specs.Lines.{lines_of}
use Rattle.tlcheck_reader.specs.Reading.{fresh, going, reading_of}
use Rattle.tlcheck_reader.specs.Text.{IsFullLine}
use Rattle.tlcheck_reader.specs.declared.entries.ReadFault.{ReadFault}
use Rattle.tlcheck_reader.specs.declared.entries.ReadFault.TheVariants as read
use Rattle.tlchart_record.specs.Film.{GoesOn, Plays, entries_of}
use Rattle.tlchart_record.specs.declared.window.Window.{Window}
use Rattle.tlchart_record.specs.declared.window.WindowFault.{WindowFault}
use Rattle.tlchart_record.specs.declared.window.WindowFault.TheVariants.{Memory, Line}
use Rattle.tlchart_record.specs.declared.window.Written.{Written}

-- ## What a text writes

-- Its first lines write these entries, over this image.
pub record Writes (text : List ℕ) (head : Head) (image : List ℕ) (entries : List Entry) : Type 0 where
  pub read : List (List ℕ)
  pub rest : List (List ℕ)
  pub lines : lines_of text ≡ read ++ rest
  pub reads : reading_of fresh read ≡ Ok (going head image entries)

-- Its first lines write so many entries.
pub record HasEntries (text : List ℕ) (count : ℕ) : Type 0 where
  pub head : Head
  pub image : List ℕ
  pub entries : List Entry
  pub writes : Writes text head image entries
  pub counted : length entries ≡ count

-- the line with its number writes that entry after these
abbrev pub IsWrittenAfter : List ℕ → Head → List ℕ → List Entry → Written → Type 0
IsWrittenAfter text head image entries written =
    IsFullLine text written.line (Ok (going head image (entries ++ written.entry ∷ [])))

-- each is written after these and the ones before it
abbrev pub AreWrittenAfter : List ℕ → Head → List ℕ → List Entry → List Written → Type 0
AreWrittenAfter text head image entries [] = Unit {0}
AreWrittenAfter text head image entries (written ∷ rest) =
    IsWrittenAfter text head image entries written × AreWrittenAfter text head image (entries ++ written.entry ∷ []) rest

-- ## What a window has

-- From a log on these entries lead there; one that is not permitted leaves the log as it is.
abbrev pub Lead : Head → List ℕ → List Event → List Entry → List Event → Type 0
Lead head image log [] next = next ≡ log
Lead head image log (entry ∷ rest) next = (then_ : List Event) × GoesOn head image log entry then_ × Lead head image then_ rest next

-- It has these entries without the first so many, each with its line, and its judge has taken those.
pub record Shows (text : List ℕ) (before : ℕ) (head : Head) (image : List ℕ) (entries : List Entry) (window : Window) : Type 0 where
  pub shown : entries_of window.entries.items ≡ drop before entries
  pub lines : AreWrittenAfter text head image (take before entries) window.entries.items
  pub log : List Event
  pub taken : Lead head image [] (take before entries) log
  pub judge : Follows head.order head.shape image log window.judge

-- It is that of the first `count` entries without the first `before`.
pub record IsWindow (text : List ℕ) (before count : ℕ) (window : Window) : Type 0 where
  pub head : Head
  pub image : List ℕ
  pub entries : List Entry
  pub writes : Writes text head image entries
  pub counted : length entries ≡ count
  pub shows : Shows text before head image entries window

-- ## On the way

-- why there is no window where a record is not read on
abbrev pub fault_of : ReadFault → WindowFault
fault_of (read.Unreadable line cause) = Line
fault_of read.Memory = Memory
fault_of read.File = Memory

-- one more entry is shown with its line, or taken
abbrev pub Takes : Bool → ℕ → Entry → Window → Window → Type 0
Takes true line entry old new =
    (new.judge ≡ old.judge) × (new.entries.items ≡ old.entries.items ++ record { line = line; entry = entry } ∷ [])
Takes false line entry old new = Plays entry old.judge new.judge × (new.entries.items ≡ old.entries.items)
