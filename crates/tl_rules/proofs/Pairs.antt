-- Each two elements of a list, as a loop meets them and by their places.
use Rattle.std.proofs.Common.{zero, suc, List, [], ◌∷◌, AllPairs, arith}
use Rattle.tl_rules.specs.Left.{Pairwise}

pub by_place : {X : Type 0} (R : X → X → Type 0) (xs : List X) → Pairwise R xs → AllPairs R xs
by_place R [] p i j d lt l = absurd (omega arith)
by_place R (x ∷ xs) p i zero d lt l = absurd (omega arith)
by_place R (x ∷ xs) p zero (suc j) d lt l = p.0 j d (omega arith)
by_place R (x ∷ xs) p (suc i) (suc j) d lt l = by_place R xs p.1 i j d (omega arith) (omega arith)

pub one_by_one : {X : Type 0} (R : X → X → Type 0) (xs : List X) → AllPairs R xs → Pairwise R xs
one_by_one R [] h = tt
one_by_one R (x ∷ xs) h = (
  λ k d l. h 0 (suc k) d (omega arith) (omega arith),
  one_by_one R xs (λ i j d lt l. h (suc i) (suc j) d (omega arith) (omega arith)),
)
