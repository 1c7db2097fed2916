-- The states of a record that a page shows, told as changes (this project's own).
use Rattle.std.specs.Prelude.{◌≡◌, ◌≢◌, ◌⊎◌, ℕ, Bool, true, false, List, [], ◌∷◌, ◌++◌, length, map, nat_lt, slice_get, string_bytes, vec_items, Some, Result, Ok, Err, if◌then◌else◌}
use Rattle.tl_protocol.specs.Runs.{end_of}
use Rattle.tl_protocol.specs.declared.event.Event.{Event}
use Rattle.tl_protocol.specs.declared.shape.Shape.{Shape}
use Rattle.tl_rules.specs.PlainState.{PlainState}
use Rattle.tlcheck_rules.specs.Judged.{Breaks, Follows, IsPermitted, JudgeState}
use Rattle.tlcheck_rules.specs.declared.entry.Entry.{Entry}
use Rattle.tlcheck_rules.specs.declared.judge.Breach.{Breach}
use Rattle.tlcheck_rules.specs.declared.judge.Refusal.{Refusal}
use Rattle.tlcheck_rules.specs.declared.judge.Refusal.TheVariants.{Broken, Memory}
use Rattle.tlcheck_record.specs.State.{block_lines, state_lines}
use Rattle.tlcheck_record.specs.declared.header.Head.{Head}
use Rattle.tlchart_page.specs.Film.{changed}
use Rattle.tlchart_page.specs.declared.film.Change.{Change}
use Rattle.tlchart_record.specs.declared.film.Frame.{Frame}
use Rattle.tlchart_record.specs.declared.film.RecordFilm.{RecordFilm}
use Rattle.tlchart_record.specs.declared.window.Written.{Written}

-- ## What is shown

-- of a block after a log: the lines that tlcheck writes of its state; nothing of one that is not there
abbrev pub block_shown : Shape → List ℕ → List Event → ℕ → List ℕ
block_shown shape image log block =
    if nat_lt block shape.blocks then block_lines shape block (end_of shape image log block) else []

-- of these blocks
abbrev pub shown_after : Shape → List ℕ → List Event → List ℕ → List (List ℕ)
shown_after shape image log blocks = map (block_shown shape image log) blocks

-- of these blocks, as a judge has them
abbrev pub blocks_shown : PlainState → List ℕ → List (List ℕ)
blocks_shown plain blocks = map (state_lines plain) blocks

-- ## One entry

-- After a log an entry is permitted, and its event is the last of the log from there on; or it breaks something, and the log stays.
abbrev pub GoesOn : Head → List ℕ → List Event → Entry → List Event → Type 0
GoesOn head image log entry next =
    (IsPermitted head.order head.shape image log entry × (next ≡ log ++ entry.event ∷ []))
    ⊎ ((breach : Breach) × Breaks head.order head.shape image log entry breach × (next ≡ log))

-- a judge was given an entry, and there was memory for it
abbrev pub is_settled : Result (Unit {0}) Refusal → Bool
is_settled (Ok u) = true
is_settled (Err (Broken breach)) = true
is_settled (Err Memory) = false

-- a judge took an entry, where it is permitted, and is where it was where it is not
abbrev pub Plays : Entry → JudgeState → JudgeState → Type 0
Plays entry old new =
    (head : Head) (image : List ℕ) (log : List Event) → Follows head.order head.shape image log old
    → (next : List Event) × GoesOn head image log entry next × Follows head.order head.shape image next new

-- A judge is where some log leads.
pub record IsSomewhere (judge : JudgeState) : Type 0 where
  pub head : Head
  pub image : List ℕ
  pub log : List Event
  pub follows : Follows head.order head.shape image log judge

-- A state shows these blocks as a judge has them, but for one.
pub record IsShownBut (plain : PlainState) (blocks : List ℕ) (block : ℕ) (state : List (List ℕ)) : Type 0 where
  pub size : length state ≡ length blocks
  pub shown :
      (place other : ℕ) → slice_get blocks place ≡ Some other → other ≢ block → slice_get state place ≡ Some (state_lines plain other)

-- a film has the changes of one more entry at its end
pub record IsLonger (old : RecordFilm) (frame : Frame) (new : RecordFilm) : Type 0 where
  pub start : new.start ≡ old.start
  pub changes : map vec_items new.changes.items ≡ map vec_items old.changes.items ++ frame.changes.items ∷ []

-- ## All entries

-- the entries without their lines
abbrev pub entries_of : List Written → List Entry
entries_of written = map (λ (w : Written). w.entry) written

-- From a log on, the changes of each entry make of the state that was shown before it the one that the log with it leads to, up to
-- the last log.
abbrev pub AreEntryFrames : Head → List ℕ → List ℕ → List Event → List Entry → List (List Change) → List Event → Type 0
AreEntryFrames head image blocks log [] [] last = last ≡ log
AreEntryFrames head image blocks log (entry ∷ entries) (changes ∷ rest) last =
    (next : List Event)
    × GoesOn head image log entry next
    × (changed (shown_after head.shape image log blocks) changes ≡ shown_after head.shape image next blocks)
    × AreEntryFrames head image blocks next entries rest last
AreEntryFrames head image blocks log entries changes last = ⊥

-- a judge took these entries, and these are their changes, whatever log led to where it was
abbrev pub Filmed : JudgeState → JudgeState → List ℕ → List Entry → List (List Change) → Type 0
Filmed old new blocks entries frames =
    (head : Head) (image : List ℕ) (log : List Event) → Follows head.order head.shape image log old
    → (last : List Event) × AreEntryFrames head image blocks log entries frames last × Follows head.order head.shape image last new

-- A film of some entries after a log over an image: it begins with what these blocks show after the log, and has a frame for each entry.
-- So the state that is shown after an entry is the one where the permitted entries up to it lead.
pub record IsRecordFilm (head : Head) (image : List ℕ) (log : List Event) (blocks : List ℕ) (entries : List Entry) (film : RecordFilm) : Type 0 where
  pub last : List Event
  pub start : map string_bytes film.start.items ≡ shown_after head.shape image log blocks
  pub frames : AreEntryFrames head image blocks log entries (map vec_items film.changes.items) last
