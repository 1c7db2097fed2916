use Rattle.std.proofs.Common.{◌≡◌, ℕ, zero, suc, ◌<◌, List, [], ◌∷◌, length, get_or, subst, sym, ap, ◌∙◌, refl, arith}
use Rattle.std.specs.Prelude.{IfNone, IsTrue}
use Rattle.tl_ways.specs.Orders.{is_busy}
use Rattle.tl_ways.specs.Rows.{Row}
use Rattle.tl_ways.specs.Tables.{WayTable, set_count, no_row}
use Rattle.tl_ways.proofs.ways.Ways.choose.Goals as goal

-- a row that is there needs no default
row_there : (rows : List Row) (i : ℕ) (d e : Row) → i < length rows → get_or rows i d ≡ get_or rows i e
row_there [] i d e inside = absurd (omega arith)
row_there (row ∷ rows) zero d e inside = refl
row_there (row ∷ rows) (suc i) d e inside = row_there rows i d e (omega arith)

pub returns-clause-none : goal.returns-clause-none
unfolding set_count
returns-clause-none c =
    let set_in : c.args.set < length c.self.inside.rows.items =
    subst (λ (t : WayTable). c.args.set < set_count t) (sym c.self.view_is) c.requires in
    let row : c.index-row.result.now ≡ get_or c.self.inside.rows.items c.args.set no_row =
    rw c.index.ensures at c.index-row.ensures ∙ row_there c.self.inside.rows.items c.args.set _ no_row set_in in
    let same : length c.index-row.result.now.entries ≡ c.args.self.now.ways =
    ap (λ (r : Row). length r.entries) row ∙ c.self.invariant.same c.args.set set_in ∙ ap (λ (t : WayTable). t.ways) c.self.view_is in
    subst (λ (ways : ℕ). IfNone c.choose.result ((way : ℕ) → way < ways → IsTrue (is_busy c.args.busy.now way))) same c.choose.ensures.none
