-- Writing a line for each element, as a loop does.
use Rattle.std.proofs.Common.{◌≡◌, ℕ, ◌+◌, ◌<◌, ◌≤◌, List, ◌++◌, length, get_or, drop, sym, ◌∙◌, append_assoc}
use Rattle.std.proofs.lemmas.List.{append-nil, drop_more, drop_all}
use Rattle.tl_text.specs.Report.{lines_from}

module _ {X : Type 0} (line : ℕ → X → List ℕ) (xs : List X) (total : List ℕ) where
  pub goes_on : (i : ℕ) (x : X) (text : List ℕ) → i < length xs → x ≡ get_or xs i x
      → text ++ lines_from line i (drop i xs) ≡ total → (text ++ line i x) ++ lines_from line (i + 1) (drop (i + 1) xs) ≡ total
  goes_on i x text lt is so_far =
      let one : text ++ lines_from line i (drop i xs) ≡ (text ++ line i x) ++ lines_from line (i + 1) (drop (i + 1) xs) = rw (drop_more xs i x lt, ← is) (simp append_assoc) in
      sym one ∙ so_far

  pub is_done : (i : ℕ) (text : List ℕ) → length xs ≤ i → text ++ lines_from line i (drop i xs) ≡ total → text ≡ total
  is_done i text ge so_far =
      let none : text ++ lines_from line i (drop i xs) ≡ text = rw (drop_all i xs ge) (append-nil text) in
      sym none ∙ so_far
