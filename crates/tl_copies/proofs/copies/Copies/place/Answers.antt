use Rattle.std.proofs.Common.{◌≡◌, ℕ, List, Option, Some, None, slice_index_or, ◌∙◌, ap}
use Rattle.std.specs.Prelude.{MatchOption}
use Rattle.std.proofs.lemmas.List.{get_or-map}
use Rattle.tl_copies.specs.Copies.{held_at, order_in}
use Rattle.tl_copies.specs.Slots.{blank}
use Rattle.tl_copies.specs.Entries.{Entry, found, IsPlace}
use Rattle.tl_copies.proofs.EntryLaws.{entry}
use Rattle.tl_copies.proofs.copies.Copies.place.Goals as goal

pub returns : goal.returns
returns c =
    let table : List Entry = c.table.result.now in
    let e : Entry = entry 0 blank in
    elim c.place_of.result
    as (λ (o : Option ℕ). MatchOption o (found c.args.block table ≡ None) (λ place. IsPlace c.args.block table place)
    → MatchOption o (held_at c.args.self.now c.args.client c.args.block ≡ None)
    (λ place. (default : ℕ) → slice_index_or (order_in c.args.self.now c.args.client) place default ≡ c.args.block)) [
      | None ↦ λ none. c.table.ensures.held c.args.block ∙ none
      | Some place ↦ λ is default.
          ap (λ (xs : List ℕ). slice_index_or xs place default) c.table.ensures.order
          ∙ get_or-map (λ (x : Entry). x.block) table place e default is.inside
          ∙ is.here e
    ] c.place_of.ensures
