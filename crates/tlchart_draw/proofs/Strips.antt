-- The last of a list, and of what is made of it.
use Rattle.std.proofs.Common.{◌≡◌, ℕ, ◌-◌, List, drop, length, map, sym, ap, ◌∙◌}
use Rattle.std.proofs.lemmas.List.{drop-map, length-map}
use Rattle.tlchart_draw.specs.Strip.{last_of}

-- what is made of the last is the last of what is made of all
pub last_of-map : {X Y : Type 0} (f : X → Y) (count : ℕ) (xs : List X) → map f (drop (length xs - count) xs) ≡ last_of count (map f xs)
last_of-map f count xs =
    sym (ap (λ (n : ℕ). drop (n - count) (map f xs)) (length-map xs f) ∙ drop-map f (length xs - count) xs)
