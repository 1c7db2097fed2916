-- What is told of a place where another text is shown (this project's own).
use Rattle.std.specs.Prelude.{◌≡◌, ◌≢◌, ℕ, List, string_bytes, Option, Some, None}
use Rattle.tlchart_page.specs.Film.{changed}
use Rattle.tlchart_page.specs.declared.film.Change.{Change}

-- a place shows another text, or the same as before
abbrev pub IsChange : ℕ → List ℕ → List ℕ → Option Change → Type 0
IsChange place before text None = before ≡ text
IsChange place before text (Some change) = (change.place ≡ place) × (string_bytes change.text ≡ text) × (before ≢ text)

-- whatever state some changes made this one of, more changes make the next one of it
abbrev pub IsToldOn : List Change → List (List ℕ) → List Change → List (List ℕ) → Type 0
IsToldOn changes state more next =
    (first : List (List ℕ)) → changed first changes ≡ state → changed first more ≡ next
