-- The last element of a list.
use Rattle.std.proofs.Common.{◌≡◌, ℕ, ◌+◌, ◌-◌, ◌<◌, List, [], ◌∷◌, ◌++◌, length, take, drop, slice_get, Option, Some, refl, sym, ap, ◌∙◌, arith, append_assoc}
use Rattle.std.proofs.lemmas.List.{take-append-drop, take_all, take_more}
use Rattle.std.proofs.lemmas.Option.{get_or_from_slice_get, slice_get_within}

-- the last element, or another where there is none
abbrev last_or : {X : Type 0} → List X → X → X
last_or [] d = d
last_or (x ∷ xs) d = last_or xs x

-- it is the one that was put at the end
last_or-push : {X : Type 0} (xs : List X) (x d : X) → last_or (xs ++ x ∷ []) d ≡ x
last_or-push [] x d = refl
last_or-push (y ∷ xs) x d = last_or-push xs x y

-- two lists that are the same end the same
pub push-same : {X : Type 0} (xs ys : List X) (x y : X) → xs ++ x ∷ [] ≡ ys ++ y ∷ [] → x ≡ y
push-same {X} xs ys x y e = sym (last_or-push xs x x) ∙ ap (λ (zs : List X). last_or zs x) e ∙ last_or-push ys y x

-- a list ends with what stands at its last place
ends-with : {X : Type 0} (xs : List X) (x : X) → slice_get xs (length xs - 1) ≡ Some x → (before : List X) × (xs ≡ before ++ x ∷ [])
ends-with {X} xs x h =
    let lt : length xs - 1 < length xs = slice_get_within xs (length xs - 1) x h in
    let all : length xs - 1 + 1 ≡ length xs = omega (arith, lt) in (
      take (length xs - 1) xs,
      sym (take_all (length xs) xs (omega arith)) ∙ ap (λ (n : ℕ). take n xs) (sym all)
          ∙ take_more xs (length xs - 1) x lt
          ∙ ap (λ (y : X). take (length xs - 1) xs ++ y ∷ []) (get_or_from_slice_get xs (length xs - 1) x x h),
    )

-- and one of which only the first elements were left out
pub ends-behind : {X : Type 0} (xs : List X) (n : ℕ) (x : X) → slice_get (drop n xs) (length (drop n xs) - 1) ≡ Some x
    → (before : List X) × (xs ≡ before ++ x ∷ [])
ends-behind {X} xs n x h =
    let r = ends-with (drop n xs) x h in (
      take n xs ++ r.0,
      sym (take-append-drop n xs) ∙ ap (λ (ys : List X). take n xs ++ ys) r.1 ∙ sym (append_assoc (take n xs) r.0 (x ∷ [])),
    )
