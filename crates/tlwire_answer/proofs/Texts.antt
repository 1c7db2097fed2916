-- The line of a record, by references to its lines.
use Rattle.std.proofs.Common.{◌≡◌, ℕ, List, Option, Some, None, refl, sym, ap, ◌∙◌}
use Rattle.std.proofs.lemmas.Option.{slice_get-map}
use Rattle.std.specs.Borrow.{Bor}
use Rattle.std.specs.List.{slice_get}
use Rattle.std.specs.Option.{option_map}
use Rattle.tl_script_words.specs.Words.{texts}
use Rattle.tlwire_answer.specs.Lines.{lent_line, line_or_none}

-- what is behind a reference that may be absent
of_one : (o : Option (Bor (List ℕ))) → lent_line o ≡ line_or_none (option_map (λ w. w.now) o)
of_one None = refl
of_one (Some w) = refl

pub lent_at : (lines : List (Bor (List ℕ))) (k : ℕ) → lent_line (slice_get lines k) ≡ line_or_none (slice_get (texts lines) k)
lent_at lines k =
    of_one (slice_get lines k) ∙ ap line_or_none (sym (slice_get-map (λ (w : Bor (List ℕ)). w.now) lines k))
