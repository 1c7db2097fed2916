use Rattle.std.proofs.Common.{ℕ, List, slice_get, sym, ◌∙◌, ap}
use Rattle.tl_bank_rest.proofs.Flushing.{first-shown, none-shown}
use Rattle.tl_bank_rest.proofs.away.first_at_home.Goals as goal

pub returns-clause-found : goal.returns-clause-found
returns-clause-found c =
    first-shown c.args.bank.now c.blocks_at_home.result.items c.copied.result c.blocks_at_home.ensures.is
    (c.copied.ensures ∙ (c.first.ensures.value ∙ ap (λ (xs : List ℕ). slice_get xs 0) c.as_slice.ensures.value))

pub returns-clause-none : goal.returns-clause-none
returns-clause-none c = λ none.
    none-shown c.args.bank.now c.blocks_at_home.result.items c.blocks_at_home.ensures.is
    (sym (c.copied.ensures ∙ (c.first.ensures.value ∙ ap (λ (xs : List ℕ). slice_get xs 0) c.as_slice.ensures.value)) ∙ none)
