-- A record in full, line by line.
use Rattle.std.proofs.Common.{◌≡◌, ℕ, Bool, List, [], ◌∷◌, ◌++◌, Option, Some, None, IfSome, refl, ap, ◌∙◌, inl, inr}
use Rattle.tl_types.specs.declared.permission.Prune.{Prune}
use Rattle.tlwire_search.specs.declared.seen.Seen.{Seen}
use Rattle.tlwire_search.specs.declared.seen.Seen.TheVariants.{OnLink, OnMemory, Load, Store}
use Rattle.tlwire_pins.specs.Drops.{IsBehindDrop, IsInFull, behind_drop, told_behind}

-- more lines behind those of a drop
behind_more : (prune : Prune) (x : Seen) (rest more : List Seen) → behind_drop prune x rest ++ more ≡ behind_drop prune x (rest ++ more)
behind_more prune (OnLink c block message) rest more = refl
behind_more prune (OnMemory block message) rest more = refl
behind_more prune (Load c address bytes) rest more = refl
behind_more prune (Store c address bytes) rest more = refl

-- one line more, behind a drop or not
pub full_more : (drops : ℕ → Bool) (seen full : List Seen) (x : Seen) (release : Option Prune) → IfSome release (λ (prune : Prune). IsBehindDrop drops prune x)
    → IsInFull drops seen full → IsInFull drops (seen ++ x ∷ []) (full ++ told_behind release x)
full_more drops [] full x None behind e = ([], refl, inl (ap (λ (ys : List Seen). ys ++ x ∷ []) e))
full_more drops [] full x (Some prune) behind e = ([], refl, inr (prune, behind, ap (λ (ys : List Seen). ys ++ behind_drop prune x []) e))
full_more drops (y ∷ seen) full x release behind (rest, filled, inl e) =
    let more : List Seen = told_behind release x in
    (rest ++ more, full_more drops seen rest x release behind filled, inl (ap (λ (ys : List Seen). ys ++ more) e))
full_more drops (y ∷ seen) full x release behind (rest, filled, inr (prune, before, e)) =
    let more : List Seen = told_behind release x in (
      rest ++ more,
      full_more drops seen rest x release behind filled,
      inr (prune, before, ap (λ (ys : List Seen). ys ++ more) e ∙ behind_more prune y rest more),
    )

-- where nothing was dropped, a record is in full
pub full_itself : (drops : ℕ → Bool) (seen : List Seen) → IsInFull drops seen seen
full_itself drops [] = refl
full_itself drops (x ∷ seen) = (seen, full_itself drops seen, inl refl)
