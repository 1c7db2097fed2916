use Rattle.std.proofs.Common.{◌∙◌, map, sym, string_bytes}
use Rattle.tlchart_page.specs.Parts.{cell_text}
use Rattle.tlchart_page.proofs.Changed.{set-same}
use Rattle.tlchart_page.proofs.film.look.Goals as goal

-- a cell that is not asked shows what it showed
pub returns-else-has-clause-shown : goal.returns-else-has-clause-shown
returns-else-has-clause-shown c =
    set-same (map string_bytes c.args.state.now) c.args.place (cell_text c.args.network.now c.args.cell.now)
    (c.requires.same (sym c.has.ensures ∙ c.if-has.false))
