use Rattle.std.proofs.Common.{◌≡◌, ℕ, List, [], Some}
use Rattle.tlcheck_record.specs.declared.header.Head.{Head}
use Rattle.tlcheck_reader.specs.Entries.{IsAmong}
use Rattle.tlchart_record.specs.Window.{Shows}
use Rattle.tlchart_record.proofs.Windows.{Given, Took}
use Rattle.tlchart_record.proofs.window.take_entries.Given as goal

-- so many entries were given out, and taken into the window
abbrev pub invariant-loop-taken : goal.invariant-loop-taken
invariant-loop-taken g l = record {
  same : l.taken ≡ 0 → l.entries ≡ l.initial.entries;
  given : (text : List ℕ) (head : Head) (image : List ℕ) → IsAmong (Some text) (g.R.Read.remaining l.initial.reader) l.initial.entries head image []
      → Given text (g.R.Read.remaining l.reader) l.entries head image l.taken;
  took : (text : List ℕ) (head : Head) (image : List ℕ) → IsAmong (Some text) (g.R.Read.remaining l.initial.reader) l.initial.entries head image []
      → Shows text l.fn.before head image [] l.initial.window
      → Took text l.fn.before (g.R.Read.remaining l.reader) l.entries head image l.window l.taken;
}
