-- The ways of a set that registers hold.
use Rattle.std.proofs.Common.{◌≡◌, ℕ, ◌+◌, ◌<◌, ◌≤◌, ◌==◌, Bool, true, false, List, [], ◌∷◌, ◌++◌, length, map, filter, take, get_or, if◌then◌else◌, cond, refl, ap, ◌∙◌, arith}
use Rattle.std.proofs.lemmas.List.{map-append}
use Rattle.std.proofs.lemmas.List.Elements.{filter_more}
use Rattle.tl_registers.specs.declared.register.Register.{Register}
use Rattle.tl_registers.specs.Registers.{held_in}

-- the way of a set that a register holds
abbrev way_of : Register → ℕ
way_of r = r.way.way

-- a register holds a way of the set
abbrev is_in : ℕ → Register → Bool
is_in set r = r.way.set == set

-- a register that is counted adds its way, and one that is not adds none
map-one : (t : Bool) (r : Register) → map way_of (cond t (r ∷ []) []) ≡ (if t then r.way.way ∷ [] else [])
map-one true r = refl
map-one false r = refl

-- one register more adds its way, where that is of the set
pub held_in-more : (set : ℕ) (xs : List Register) (i : ℕ) (d : Register) → i < length xs
    → held_in set (take (i + 1) xs)
    ≡ held_in set (take i xs) ++ (if (get_or xs i d).way.set == set then (get_or xs i d).way.way ∷ [] else [])
held_in-more set xs i d l =
    ap (map way_of) (filter_more (is_in set) xs i d l)
    ∙ (map-append way_of (filter (is_in set) (take i xs)) _
    ∙ ap (λ ys. held_in set (take i xs) ++ ys) (map-one (is_in set (get_or xs i d)) (get_or xs i d)))

-- no more ways than registers
pub length-held_in : (set : ℕ) (xs : List Register) → length (held_in set xs) ≤ length xs
length-held_in set [] = omega arith
length-held_in set (x ∷ xs) =
    let rest = length-held_in set xs in
    elim (is_in set x) as (λ t. length (map way_of (cond t (x ∷ filter (is_in set) xs) (filter (is_in set) xs))) ≤ length (x ∷ xs)) [
      | true ↦ omega (arith, rest)
      | false ↦ omega (arith, rest)
    ]
