-- The order of a set's ways, and which way is taken next (this project's own).
use Rattle.std.specs.Prelude.{◌≡◌, ℕ, zero, suc, ◌==◌, ◌&&◌, Bool, not, List, [], ◌∷◌, ◌++◌, Option, None, Some, if◌then◌else◌, find, ◌⊎◌}
use Rattle.std.specs.List.{list_any}
use Rattle.tl_types.specs.Lowest.{lowest}

-- the numbers below n, rising
abbrev pub rising : ℕ → List ℕ
rising zero = []
rising (suc n) = rising n ++ n ∷ []

-- a way is among these
abbrev pub IsAmong : ℕ → List ℕ → Type 0
IsAmong way [] = ⊥
IsAmong way (first ∷ rest) = (way ≡ first) ⊎ IsAmong way rest

-- the others of an order
abbrev pub without_way : ℕ → List ℕ → List ℕ
without_way way [] = []
without_way way (first ∷ rest) = if first == way then without_way way rest else first ∷ without_way way rest

-- the order once a way is touched: that way last
abbrev pub touched : ℕ → List ℕ → List ℕ
touched way order = without_way way order ++ way ∷ []

-- a way is busy
abbrev pub is_busy : List ℕ → ℕ → Bool
is_busy busy way = list_any (λ held. held == way) busy

-- the first, else the second
abbrev pub or_else : Option ℕ → Option ℕ → Option ℕ
or_else (Some first) second = Some first
or_else None second = second

-- the way that is taken next, of those that are not busy: the lowest free one, else the first in the order
unfoldable pub chosen : (ℕ → Bool) → ℕ → List ℕ → List ℕ → Option ℕ
chosen free ways order busy =
    or_else (lowest (λ way. free way && not (is_busy busy way)) ways) (find (λ way. not (is_busy busy way)) order)
