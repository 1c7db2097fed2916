use Rattle.std.proofs.Common.{◌≡◌, map, string_bytes}
use Rattle.tlchart_page.specs.Film.{changed}
use Rattle.tlchart_page.proofs.Changed.{half}
use Rattle.tlchart_record.specs.Film.{blocks_shown}
use Rattle.tlchart_record.proofs.film.changes_in.Given as goal

abbrev pub invariant-loop-place : goal.invariant-loop-place
invariant-loop-place l = record {
  shown : map string_bytes l.state ≡ half (blocks_shown l.judge.plain l.blocks) (map string_bytes l.fn.state) l.place;
  told : changed (map string_bytes l.fn.state) l.changes.items ≡ map string_bytes l.state;
}
