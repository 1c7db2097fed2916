use Rattle.std.proofs.Common.{◌≡◌, ℕ, List, [], ◌∙◌, get_or, map, ap, sym, subst, string_bytes}
use Rattle.std.proofs.lemmas.List.{get_or-map, map-set}
use Rattle.tlchart_page.specs.Told.{IsChange}
use Rattle.tlchart_page.proofs.film.show.Goals as goal

-- the place is set
pub returns-clause-shown : goal.returns-clause-shown
returns-clause-shown c = map-set string_bytes c.args.state.now c.args.place c.args.text

-- the change is from the text before
pub returns-clause-change : goal.returns-clause-change
returns-clause-change c =
    let before : c.as_str-before.result.now ≡ get_or (map string_bytes c.args.state.now) c.args.place [] =
    c.as_str-before.ensures.value
    ∙ sym (get_or-map string_bytes c.args.state.now c.args.place c.index-state-place.result [] c.requires) in
    subst (λ (b : List ℕ). IsChange c.args.place b (string_bytes c.args.text) c.in_ok-change.change) before
    (subst (λ (t : List ℕ). IsChange c.args.place c.as_str-before.result.now t c.in_ok-change.change) c.as_str.ensures.value
    c.in_ok-change.ensures)
