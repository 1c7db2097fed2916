use Rattle.std.proofs.Common.{◌≡◌, map, take, string_bytes, vec_items}
use Rattle.tlchart_page.specs.Film.{AreFrames}
use Rattle.tlchart_page.specs.Parts.{state_shown}
use Rattle.tlchart_page.proofs.film.film_steps.Given as goal

abbrev pub invariant-loop-index : goal.invariant-loop-index
invariant-loop-index l = record {
  start : l.film.start ≡ l.fn.film.start;
  frames : AreFrames l.cells 0 (take l.index l.steps) l.fn.network l.film.answers.items (map vec_items l.film.changes.items) l.network;
  state : map string_bytes l.state ≡ state_shown l.network l.cells;
}
