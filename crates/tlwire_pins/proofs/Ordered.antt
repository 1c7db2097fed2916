-- The lines of one client, and those of one of its blocks.
use Rattle.std.proofs.Common.{◌≡◌, ◌==◌, ◌&&◌, ◌<◌, ◌≤◌, ◌+◌, ℕ, zero, suc, Bool, true, false, cond, List, [], ◌∷◌, ◌++◌, filter, map, take, get_or, length, refl, sym, ap, ◌∙◌, arith}
use Rattle.std.proofs.lemmas.List.{get_or-map, length-map}
use Rattle.std.specs.Borrow.{Bor}
use Rattle.tl_types.specs.Codes.{channel_of}
use Rattle.tl_protocol.specs.declared.shape.Shape.{Shape}
use Rattle.tlwire_search.specs.declared.seen.Seen.{Seen}
use Rattle.tlwire_search.specs.declared.seen.Seen.TheVariants.{OnLink, OnMemory, Load, Store}
use Rattle.tlwire_pins.proofs.Walk.{take_one}
use Rattle.tlwire_pins.specs.Pins.{is_message, is_of_client, is_own, is_told, own, told}
use Rattle.tlwire_pins.specs.declared.view.Cores.{Cores}
use Rattle.tlwire_pins.specs.declared.view.Cores.TheVariants.{Watched, Unseen}
use Rattle.tlwire_pins.specs.Walk.{IsBeginning}

-- a line of a block is one of the client's
and_first : (t u v : Bool) → (t && u && v) ≡ true → (t && v) ≡ true
and_first true true v e = e
and_first true false v e = cc
and_first false u v e = cc

and_left : (t u : Bool) → (t && u) ≡ true → t ≡ true
and_left true u e = refl
and_left false u e = e

of_client : (shape : Shape) (c block : ℕ) (x : Seen) → is_own shape c block x ≡ true → is_of_client Watched c x ≡ true
of_client shape c block (OnLink x b message) e = and_first (x == c) (b == block) (is_told (channel_of message.kind)) e
of_client shape c block (OnMemory b message) e = e
of_client shape c block (Load x address bytes) e = and_left (x == c) _ e
of_client shape c block (Store x address bytes) e = and_left (x == c) _ e

-- so nothing is lost where the others are left out
left_out : (t u : Bool) (x : Seen) (xs ys : List Seen) (own_ : List Seen → List Seen) → (t ≡ true → u ≡ true) → (u ≡ true → own_ (x ∷ ys) ≡ cond t (x ∷ own_ ys) (own_ ys))
    → own_ ys ≡ xs → own_ (cond u (x ∷ ys) ys) ≡ cond t (x ∷ xs) xs
left_out true true x xs ys own_ h k e = k refl ∙ ap (λ (zs : List Seen). x ∷ zs) e
left_out true false x xs ys own_ h k e = let wrong : false ≡ true = h refl in cc
left_out false true x xs ys own_ h k e = k refl ∙ e
left_out false false x xs ys own_ h k e = e

pub own-filter : (shape : Shape) (c block : ℕ) (xs : List Seen) → own shape c block (filter (is_of_client Watched c) xs) ≡ own shape c block xs
own-filter shape c block [] = refl
own-filter shape c block (x ∷ xs) =
    left_out (is_own shape c block x) (is_of_client Watched c x) x (own shape c block xs) (filter (is_of_client Watched c) xs) (own shape c block)
    (of_client shape c block x) (λ u. refl) (own-filter shape c block xs)

-- and without its loads and stores
messages : (shape : Shape) (c block : ℕ) (xs : List Seen)
    → own shape c block (filter (is_of_client Unseen c) xs) ≡ own shape c block (filter is_message xs)
messages shape c block [] = refl
messages shape c block (OnLink x b message ∷ xs) =
    left_out (is_own shape c block (OnLink x b message)) (is_of_client Unseen c (OnLink x b message)) (OnLink x b message)
    (own shape c block (filter is_message xs)) (filter (is_of_client Unseen c) xs) (own shape c block)
    (of_client shape c block (OnLink x b message)) (λ u. refl) (messages shape c block xs)
messages shape c block (OnMemory b message ∷ xs) = messages shape c block xs
messages shape c block (Load x address bytes ∷ xs) = messages shape c block xs
messages shape c block (Store x address bytes ∷ xs) = messages shape c block xs

pub told-filter : (cores : Cores) (shape : Shape) (c block : ℕ) (xs : List Seen)
    → own shape c block (filter (is_of_client cores c) xs) ≡ own shape c block (told cores xs)
told-filter Watched shape c block xs = own-filter shape c block xs
told-filter Unseen shape c block xs = messages shape c block xs

-- ## Lines behind references

-- the next lines are the same
pub same_more : (some all : List (Bor Seen)) (place : ℕ) (x y : Bor Seen) → place < length some → place < length all → x ≡ get_or some place x → y ≡ get_or all place y
    → x.now ≡ y.now → take place (map (λ (b : Bor Seen). b.now) some) ≡ take place (map (λ (b : Bor Seen). b.now) all)
    → take (place + 1) (map (λ (b : Bor Seen). b.now) some) ≡ take (place + 1) (map (λ (b : Bor Seen). b.now) all)
same_more some all place x y lt less is_x is_y same e =
    let now = λ (b : Bor Seen). b.now in
    let in_some : place < length (map now some) = omega (arith, length-map some now) in
    let in_all : place < length (map now all) = omega (arith, length-map all now) in
    let one : get_or (map now some) place x.now ≡ x.now = get_or-map now some place x x.now lt ∙ ap now (sym is_x) in
    let other : get_or (map now all) place y.now ≡ y.now = get_or-map now all place y y.now less ∙ ap now (sym is_y) in
    take_one (map now some) place x.now in_some
    ∙ (ap (λ (z : Seen). take place (map now some) ++ z ∷ []) (one ∙ (same ∙ sym other))
    ∙ (ap (λ (zs : List Seen). zs ++ get_or (map now all) place y.now ∷ []) e
    ∙ sym (take_one (map now all) place y.now in_all)))

-- so many lines that are the same are the beginning
pub beginning : (some all : List Seen) (place : ℕ) → length some ≤ place → take place some ≡ take place all → IsBeginning some all
beginning [] all place h e = (all, refl)
beginning (x ∷ some) all zero h e = absurd (omega (arith, h))
beginning (x ∷ some) [] (suc place) h e = cc
beginning (x ∷ some) (y ∷ all) (suc place) h e =
    let same : x ≡ y = cc in
    let rest : take place some ≡ take place all = cc in
    let more : IsBeginning some all = beginning some all place (omega (arith, h)) rest in
    (more.0, ap (λ (z : Seen). z ∷ all) (sym same) ∙ ap (λ (zs : List Seen). x ∷ zs) more.1)
