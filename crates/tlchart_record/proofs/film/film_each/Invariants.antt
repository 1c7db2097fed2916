use Rattle.std.proofs.Common.{◌≡◌, map, take, string_bytes, vec_items}
use Rattle.tlchart_record.specs.Film.{Filmed, IsSomewhere, blocks_shown, entries_of}
use Rattle.tlchart_record.proofs.film.film_each.Given as goal

abbrev pub invariant-loop-written : goal.invariant-loop-written
invariant-loop-written l = record {
  start : l.film.start ≡ l.fn.film.start;
  filmed : Filmed l.fn.judge l.judge l.blocks (entries_of (take l.written-index l.entries)) (map vec_items l.film.changes.items);
  somewhere : IsSomewhere l.judge;
  state : map string_bytes l.state ≡ blocks_shown l.judge.plain l.blocks;
}
