use Rattle.std.proofs.Common.{◌≡◌, map, take, string_bytes}
use Rattle.tlchart_page.specs.Parts.{state_shown}
use Rattle.tlchart_page.proofs.film.state_of.Given as goal

abbrev pub invariant-loop-cell : goal.invariant-loop-cell
invariant-loop-cell l = map string_bytes l.state.items ≡ state_shown l.network (take l.cell-index l.cells)
