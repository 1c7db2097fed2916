-- Two lists, element by element.
use Rattle.std.proofs.Common.{◌≡◌, ℕ, zero, suc, ◌+◌, ◌<◌, ◌≤◌, List, [], ◌∷◌, ◌++◌, length, get_or, slice_get, map, take, take_all, Some, None, refl, sym, ap, ◌∙◌, subst, arith}
use native.Mathlib.Numerals.{unary_clauses}
use Rattle.std.specs.List.{AllZip}

one_some : {X : Type 0} (x y : X) → Some x ≡ Some y → x ≡ y
one_some x y p = cc

-- as many elements, and each two of one place are related
pub zip_from : {X Y : Type 0} (R : X → Y → Type 0) (xs : List X) (ys : List Y) → length xs ≡ length ys
    → ((i : ℕ) (x : X) (y : Y) → slice_get xs i ≡ Some x → slice_get ys i ≡ Some y → R x y) → AllZip R xs ys
zip_from R [] [] long each = tt
zip_from R [] (y ∷ ys) long each = absurd (omega arith)
zip_from R (x ∷ xs) [] long each = absurd (omega arith)
zip_from R (x ∷ xs) (y ∷ ys) long each =
    (each 0 x y refl refl, zip_from R xs ys (omega arith) (λ i u v p q. each (suc i) u v p q))

pub zip_long : {X Y : Type 0} (R : X → Y → Type 0) (xs : List X) (ys : List Y) → AllZip R xs ys → length xs ≡ length ys
zip_long R [] [] z = refl
zip_long R [] (y ∷ ys) z = absurd z
zip_long R (x ∷ xs) [] z = absurd z
zip_long R (x ∷ xs) (y ∷ ys) z = let rest = zip_long R xs ys z.1 in omega arith

pub zip_at : {X Y : Type 0} (R : X → Y → Type 0) (xs : List X) (ys : List Y) (i : ℕ) (x : X) (y : Y) → AllZip R xs ys
    → slice_get xs i ≡ Some x → slice_get ys i ≡ Some y → R x y
zip_at R [] ys i x y z p q = let e : None ≡ Some x = p in absurd (cc)
zip_at R (a ∷ xs) [] i x y z p q = absurd z
zip_at {X} {Y} R (a ∷ xs) (b ∷ ys) zero x y z p q =
    subst (λ (u : X). R u y) (one_some a x p) (subst (λ (v : Y). R a v) (one_some b y q) z.0)
zip_at R (a ∷ xs) (b ∷ ys) (suc i) x y z p q = zip_at R xs ys i x y z.1 p q

-- the element that was read at an index
pub slice_at : {X : Type 0} (xs : List X) (i : ℕ) (x : X) → i < length xs → x ≡ get_or xs i x → slice_get xs i ≡ Some x
slice_at [] i x lt is = absurd (omega arith)
slice_at (y ∷ ys) zero x lt is = ap Some (sym is)
slice_at (y ∷ ys) (suc i) x lt is = slice_at ys i x (omega arith) is

-- ## The first n elements, as far as they were seen

pub taken_more : {X Y : Type 0} (f : X → Y) (n : ℕ) (xs : List X) (i : ℕ) (x : X) → i < n → i < length xs → x ≡ get_or xs i x
    → map f (take (i + 1) (take n xs)) ≡ map f (take i (take n xs)) ++ f x ∷ []
taken_more f n [] i x l lt is = absurd (omega arith)
taken_more f zero (y ∷ ys) i x l lt is = absurd (omega arith)
taken_more {X} {Y} f (suc n) (y ∷ ys) zero x l lt is = ap (λ (z : X). f z ∷ []) (sym is)
taken_more {X} {Y} f (suc n) (y ∷ ys) (suc i) x l lt is =
    simp unary_clauses (ap (λ (zs : List Y). f y ∷ zs) (simp unary_clauses at (taken_more f n ys i x (omega arith) (omega arith) is)))

short : {X : Type 0} (n : ℕ) (xs : List X) → length (take n xs) ≤ n
short zero [] = omega arith
short zero (x ∷ xs) = omega arith
short (suc n) [] = omega arith
short (suc n) (x ∷ xs) = let rest = short n xs in omega arith

pub taken_same : {X Y : Type 0} (f : X → Y) (n : ℕ) (xs : List X) (i : ℕ) → n ≤ i
    → map f (take i (take n xs)) ≡ map f (take (i + 1) (take n xs))
taken_same {X} f n xs i le =
    let few = short n xs in
    ap (λ (zs : List X). map f zs) (take_all i (take n xs) (omega arith) ∙ sym (take_all (i + 1) (take n xs) (omega arith)))

pub length_taken : {X Y : Type 0} (f : X → Y) (n : ℕ) (xs : List X) → length (map f (take n xs)) ≤ n
length_taken f zero [] = omega arith
length_taken f zero (x ∷ xs) = omega arith
length_taken f (suc n) [] = omega arith
length_taken f (suc n) (x ∷ xs) = let rest = length_taken f n xs in omega arith
