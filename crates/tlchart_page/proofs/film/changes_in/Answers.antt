use Rattle.std.proofs.Common.{◌∙◌, arith, map, string_bytes}
use Rattle.tlchart_page.specs.Parts.{cell_text}
use Rattle.tlchart_page.proofs.Changed.{half-inside, look-all, look-next, look-seen}
use Rattle.tlchart_page.proofs.film.changes_in.Goals as goal

-- the state has the place
pub look-requires-clause-inside : goal.look-requires-clause-inside
look-requires-clause-inside c =
    half-inside (cell_text c.args.network.now) string_bytes c.args.cells.now c.loop-place.state (map string_bytes c.args.state.now)
    c.loop-place.place c.loop-place.invariant.shown c.requires.size (omega arith)

-- a cell that the step does not reach shows there what it shows now
pub look-requires-clause-same : goal.look-requires-clause-same
look-requires-clause-same c = λ no.
    look-seen (cell_text c.args.network.now) c.args.cells.now (map string_bytes c.args.state.now) (map string_bytes c.loop-place.state)
    c.loop-place.place c.cell_at-cell.result c.cell_at-cell.ensures c.requires.size c.loop-place.invariant.shown
    (c.requires.shown c.loop-place.place c.cell_at-cell.result c.cell_at-cell.ensures no)

-- one more cell was looked at
pub loop-place-preserved : goal.loop-place-preserved
loop-place-preserved c = record {
  shown =
      look-next (cell_text c.args.network.now) c.args.cells.now (map string_bytes c.args.state.now) (map string_bytes c.loop-place.state)
      (map string_bytes c.look.new.state) c.loop-place.place c.cell_at-cell.result c.cell_at-cell.ensures c.requires.size
      c.loop-place.invariant.shown c.in_ok-look.ensures.shown;
  told = c.in_ok-look.ensures.told (map string_bytes c.args.state.now) c.loop-place.invariant.told;
}

-- all were looked at
pub returns-clause-shown : goal.returns-clause-shown
returns-clause-shown c =
    c.loop-place.invariant.shown
    ∙ look-all (cell_text c.args.network.now) c.args.cells.now (map string_bytes c.args.state.now) c.loop-place.place c.requires.size
    (omega arith)
