use Rattle.std.proofs.Common.{◌≡◌, map, string_bytes}
use Rattle.tlchart_page.specs.Film.{changed}
use Rattle.tlchart_page.specs.Parts.{state_shown}
use Rattle.tlchart_page.proofs.Changed.{half}
use Rattle.tlchart_page.proofs.film.changes_in.Given as goal

abbrev pub invariant-loop-place : goal.invariant-loop-place
invariant-loop-place l = record {
  shown : map string_bytes l.state ≡ half (state_shown l.network l.cells) (map string_bytes l.fn.state) l.place;
  told : changed (map string_bytes l.fn.state) l.changes.items ≡ map string_bytes l.state;
}
