-- What is counted of a record: each entry once, in the situation that it is in, at its line (this project's own).
use Rattle.std.specs.Prelude.{◌≡◌, ◌⊎◌, ℕ, ◌+◌, min, List, [], ◌∷◌, ◌++◌, length, Some, Ok, slice_get}
use Rattle.tlcheck_rules.specs.Judged.{IsLawful, events_of}
use Rattle.tlcheck_rules.specs.declared.entry.Entry.{Entry}
use Rattle.tlcheck_record.specs.declared.header.Head.{Head}
use Rattle.tlcheck_situations.specs.Reach.{situation_after}
use Rattle.tlcheck_home.specs.Tally.{IsNoted, TallyState}
use Rattle.tlcheck_home.specs.declared.tally.Mark.{Mark}
use Rattle.tlcheck_reader.specs.Lines.{lines_of}
use Rattle.tlcheck_reader.specs.Reading.{Reading, fresh, going, after_line, entries_in, reading_of}
use Rattle.tlcheck_coverage.specs.Tallies.{IsChangedAt, Opens, TalliesState}
use Rattle.tlcheck_coverage.specs.declared.tallies.TheConstants.{MOST}

-- An entry that was read is counted in the situation that it is in after those before it.
pub record CountsEntry (mark : Mark) (before after : Reading) (old new : TallyState) : Type 0 where
  pub head : Head
  pub image : List ℕ
  pub entry : Entry
  pub reads : after ≡ going head image (entries_in before ++ entry ∷ [])
  pub noted : IsNoted (situation_after head.shape image (events_of (entries_in before)) entry.event) mark old new

-- a line with no entry counts nothing
abbrev pub CountsNothing : Reading → Reading → TallyState → TallyState → Type 0
CountsNothing before after old new = (entries_in after ≡ entries_in before) × (new ≡ old)

-- a line counts its entry, if it has one
abbrev pub CountsLine : Mark → Reading → Reading → TallyState → TallyState → Type 0
CountsLine mark before after old new = CountsNothing before after old new ⊎ CountsEntry mark before after old new

-- the place of a line of a file, where so many stand before it
abbrev pub mark_after : ℕ → ℕ → Mark
mark_after file n = record { file = file; line = n + 1 }

-- each of these lines, which stand behind so many, counts its entry, if it has one
abbrev pub CountsLines : ℕ → ℕ → Reading → List (List ℕ) → TallyState → TallyState → Type 0
CountsLines file n reading [] old new = new ≡ old
CountsLines file n reading (line ∷ rest) old new =
    (after : Reading) × (then_ : TallyState)
    × (after_line reading line ≡ Ok after)
    × CountsLine (mark_after file n) reading after old then_
    × CountsLines file (n + 1) after rest then_ new

-- The record is read to its end, each of its so many entries is permitted, and each is counted over the tally of its
-- clients, of three where it has more; the other tallies are as they were.
pub record IsCovered (file : ℕ) (text : List ℕ) (count : ℕ) (old new : TalliesState) : Type 0 where
  pub head : Head
  pub image : List ℕ
  pub entries : List Entry
  pub reads : reading_of fresh (lines_of text) ≡ Ok (going head image entries)
  pub lawful : IsLawful head.order head.shape image entries
  pub counted : length entries ≡ count
  pub place : ℕ
  pub opened : TalliesState
  pub opens : Opens (min head.shape.clients MOST) place old opened
  pub before : TallyState
  pub there : slice_get opened.tallies place ≡ Some before
  pub after : TallyState
  pub counts : CountsLines file 0 fresh (lines_of text) before after
  pub changes : IsChangedAt place after opened new
