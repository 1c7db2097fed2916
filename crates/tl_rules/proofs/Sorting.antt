-- Lists put in order.
use Rattle.std.proofs.Common.{◌≡◌, ℕ, ◌+◌, Bool, true, false, cond, List, [], ◌∷◌, length, get_or, All, filter, inl, inr, refl, sym, ap, ◌∙◌, arith}
use Rattle.std.proofs.lemmas.Bool.{cond_both, cond-true, cond-false, cases_Bool}
use Rattle.std.specs.Prelude.{IsPermutation}
use Rattle.std.proofs.lemmas.List.Sorted.{IsPermutation-refl, IsPermutation-trans, IsPermutation-middle, IsPermutation-cons}
use Rattle.std.proofs.lemmas.List.Elements.{All-nil, All-cons, All-head, All-tail, All-filter}
use Rattle.tl_rules.specs.Left.{Pairwise}

-- an element put before the first that it precedes
abbrev pub insert : {X : Type 0} → (X → X → Bool) → X → List X → List X
insert t e [] = e ∷ []
insert t e (x ∷ xs) = cond (t e x) (e ∷ x ∷ xs) (x ∷ insert t e xs)

-- the elements in order
abbrev pub sort : {X : Type 0} → (X → X → Bool) → List X → List X
sort t [] = []
sort t (x ∷ xs) = insert t x (sort t xs)

-- ## What each element keeps

pub all_insert : {X : Type 0} (P : X → Type 0) (t : X → X → Bool) (e : X) (xs : List X) → P e → All P xs → All P (insert t e xs)
all_insert P t e [] p h = All-cons P e [] p h
all_insert P t e (x ∷ xs) p h =
    cond_both (t e x) (e ∷ x ∷ xs) (x ∷ insert t e xs) (All P)
    (λ q. All-cons P e (x ∷ xs) p h)
    (λ q. All-cons P x (insert t e xs) (All-head P x xs h) (all_insert P t e xs p (All-tail P x xs h)))

pub all_sort : {X : Type 0} (P : X → Type 0) (t : X → X → Bool) (xs : List X) → All P xs → All P (sort t xs)
all_sort P t [] h = h
all_sort P t (x ∷ xs) h = all_insert P t x (sort t xs) (All-head P x xs h) (all_sort P t xs (All-tail P x xs h))

-- what each two elements keep, whichever is first
pub pairs_insert : {X : Type 0} (R : X → X → Type 0) → ((x y : X) → R x y → R y x) → (t : X → X → Bool) (e : X) (xs : List X)
    → All (R e) xs → Pairwise R xs → Pairwise R (insert t e xs)
pairs_insert R s t e [] h p = (All-nil (R e), tt)
pairs_insert R s t e (x ∷ xs) h p =
    cond_both (t e x) (e ∷ x ∷ xs) (x ∷ insert t e xs) (Pairwise R)
    (λ q. (h, p))
    (λ q. (all_insert (R x) t e xs (s e x (All-head (R e) x xs h)) p.0, pairs_insert R s t e xs (All-tail (R e) x xs h) p.1))

pub pairs_sort : {X : Type 0} (R : X → X → Type 0) → ((x y : X) → R x y → R y x) → (t : X → X → Bool) (xs : List X)
    → Pairwise R xs → Pairwise R (sort t xs)
pairs_sort R s t [] p = tt
pairs_sort R s t (x ∷ xs) p = pairs_insert R s t x (sort t xs) (all_sort (R x) t xs p.0) (pairs_sort R s t xs p.1)

-- two relations at once
pub both_pairs : {X : Type 0} (R S T : X → X → Type 0) → ((x y : X) → R x y → S x y → T x y) → (xs : List X)
    → Pairwise R xs → Pairwise S xs → Pairwise T xs
both_pairs R S T f [] p q = tt
both_pairs R S T f (x ∷ xs) p q = (λ k d l. f x (get_or xs k d) (p.0 k d l) (q.0 k d l), both_pairs R S T f xs p.1 q.1)

-- ## The same elements

insert_moves : {X : Type 0} (t : X → X → Bool) (e : X) (xs : List X) → IsPermutation (e ∷ xs) (insert t e xs)
insert_moves t e [] = IsPermutation-refl (e ∷ [])
insert_moves t e (x ∷ xs) =
    cond_both (t e x) (e ∷ x ∷ xs) (x ∷ insert t e xs) (λ ys. IsPermutation (e ∷ x ∷ xs) ys)
    (λ _. IsPermutation-refl (e ∷ x ∷ xs))
    (λ _. IsPermutation-trans (e ∷ x ∷ xs) (x ∷ e ∷ xs) (x ∷ insert t e xs) (IsPermutation-middle (e ∷ []) x xs)
    (IsPermutation-cons x (e ∷ xs) (insert t e xs) (insert_moves t e xs)))

pub permuted : {X : Type 0} (t : X → X → Bool) (xs : List X) → IsPermutation xs (sort t xs)
permuted t [] = IsPermutation-refl []
permuted t (x ∷ xs) =
    IsPermutation-trans (x ∷ xs) (x ∷ sort t xs) (insert t x (sort t xs)) (IsPermutation-cons x xs (sort t xs) (permuted t xs))
    (insert_moves t x (sort t xs))

-- ## Lengths and parts

pub len_cond : {X : Type 0} (t : Bool) (x : X) (xs : List X) → length (cond t (x ∷ xs) xs) ≡ cond {A = ℕ} t 1 0 + length xs
len_cond true x xs = omega arith
len_cond false x xs = omega arith

length_insert : {X : Type 0} (t : X → X → Bool) (e : X) (xs : List X) → length (insert t e xs) ≡ length xs + 1
length_insert {X = X} t e [] = refl
length_insert {X = X} t e (x ∷ xs) =
    cond_both (t e x) (e ∷ x ∷ xs) (x ∷ insert t e xs) (λ (ys : List X). length ys ≡ length (x ∷ xs) + 1)
    (λ _. omega arith) (λ _. let rest = length_insert t e xs in omega arith)

pub length_sort : {X : Type 0} (t : X → X → Bool) (xs : List X) → length (sort t xs) ≡ length xs
length_sort t [] = refl
length_sort t (x ∷ xs) = let one = length_insert t x (sort t xs) in let rest = length_sort t xs in omega arith

-- what passes a test
pub pairs_filter : {X : Type 0} (R : X → X → Type 0) (q : X → Bool) (xs : List X) → Pairwise R xs → Pairwise R (filter q xs)
pairs_filter R q [] p = tt
pairs_filter R q (x ∷ xs) p =
    cond_both (q x) (x ∷ filter q xs) (filter q xs) (Pairwise R)
    (λ _. (All-filter q (R x) xs p.0, pairs_filter R q xs p.1)) (λ _. pairs_filter R q xs p.1)

pub pairs_with : {X : Type 0} (P : X → Type 0) (R S : X → X → Type 0) → ((x y : X) → P x → P y → R x y → S x y)
    → (xs : List X) → All P xs → Pairwise R xs → Pairwise S xs
pairs_with P R S f [] h p = tt
pairs_with P R S f (x ∷ xs) h p =
    (λ k d l. f x (get_or xs k d) (All-head P x xs h) (All-tail P x xs h k d l) (p.0 k d l), pairs_with P R S f xs (All-tail P x xs h) p.1)

-- ## Order

keep_step : {X : Type 0} (own other : Bool) (x : X) (more rest whole : List X) → whole ≡ x ∷ more
    → cond other (x ∷ cond own more rest) (cond own more rest) ≡ cond own (cond other whole more) (cond other (x ∷ rest) rest)
keep_step true true x more rest whole is = sym is
keep_step true false x more rest whole is = refl
keep_step false true x more rest whole is = refl
keep_step false false x more rest whole is = refl

inside : {X Y : Type 0} (f : X → Y) (t : Bool) (x y : X) → f (cond t x y) ≡ cond t (f x) (f y)
inside f true x y = refl
inside f false x y = refl

module _ {X : Type 0} (t : X → X → Bool) (Lt : X → X → Type 0) (sound : (x y : X) → t x y ≡ true → Lt x y)
    (complete : (x y : X) → Lt x y → t x y ≡ true) (trans : (x y z : X) → Lt x y → Lt y z → Lt x z) where
  -- the one comes before the other
  abbrev pub IsDecided : X → X → Type 0
  IsDecided x y = t x y ≡ false → Lt y x

  sorted_insert : (e : X) (xs : List X) → All (IsDecided e) xs → Pairwise Lt xs → Pairwise Lt (insert t e xs)
  sorted_insert e [] h p = (All-nil (Lt e), tt)
  sorted_insert e (x ∷ xs) h p =
      cond_both (t e x) (e ∷ x ∷ xs) (x ∷ insert t e xs) (Pairwise Lt)
      (λ q. (All-cons (Lt e) x xs (sound e x q) (λ k d l. trans e x (get_or xs k d) (sound e x q) (p.0 k d l)), p))
      (λ q. (all_insert (Lt x) t e xs (All-head (IsDecided e) x xs h q) p.0, sorted_insert e xs (All-tail (IsDecided e) x xs h) p.1))

  pub sorted : (xs : List X) → Pairwise IsDecided xs → Pairwise Lt (sort t xs)
  sorted [] p = tt
  sorted (x ∷ xs) p = sorted_insert x (sort t xs) (all_sort (IsDecided x) t xs p.0) (sorted xs p.1)

  insert_first : (e : X) (xs : List X) → All (λ x. t e x ≡ true) xs → insert t e xs ≡ e ∷ xs
  insert_first e [] h = refl
  insert_first e (x ∷ xs) h = cond-true (t e x) (e ∷ x ∷ xs) (x ∷ insert t e xs) (All-head (λ y. t e y ≡ true) x xs h)

  -- what is in order already
  pub sort_same : (xs : List X) → Pairwise Lt xs → sort t xs ≡ xs
  sort_same [] p = refl
  sort_same (x ∷ xs) p =
      ap (insert t x) (sort_same xs p.1) ∙ insert_first x xs (λ k d l. complete x (get_or xs k d) (p.0 k d l))

  filter_insert : (q : X → Bool) (e : X) (xs : List X) → Pairwise Lt xs
      → filter q (insert t e xs) ≡ cond (q e) (insert t e (filter q xs)) (filter q xs)
  filter_insert q e [] p = refl
  filter_insert q e (x ∷ xs) p =
      elim (cases_Bool (t e x)) [
        | inl first ↦
            ap (filter q) (cond-true (t e x) (e ∷ x ∷ xs) (x ∷ insert t e xs) first)
            ∙ ap (λ (ys : List X). cond (q e) ys (filter q (x ∷ xs)))
            (sym (insert_first e (filter q (x ∷ xs)) (All-filter q (λ y. t e y ≡ true) (x ∷ xs)
            (All-cons (λ y. t e y ≡ true) x xs first (λ k d l. complete e (get_or xs k d) (trans e x (get_or xs k d) (sound e x first) (p.0 k d l)))))))
        | inr other ↦
            ap (filter q) (cond-false (t e x) (e ∷ x ∷ xs) (x ∷ insert t e xs) other)
            ∙ (ap (λ (ys : List X). cond (q x) (x ∷ ys) ys) (filter_insert q e xs p.1)
            ∙ (keep_step (q e) (q x) x (insert t e (filter q xs)) (filter q xs) (insert t e (x ∷ filter q xs))
            (cond-false (t e x) (e ∷ x ∷ filter q xs) (x ∷ insert t e (filter q xs)) other)
            ∙ ap (λ (ys : List X). cond (q e) ys (cond (q x) (x ∷ filter q xs) (filter q xs)))
            (sym (inside (insert t e) (q x) (x ∷ filter q xs) (filter q xs)))))
      ]

  -- the elements that pass a test, in order
  pub filter_sort : (q : X → Bool) (xs : List X) → Pairwise IsDecided xs → filter q (sort t xs) ≡ sort t (filter q xs)
  filter_sort q [] p = refl
  filter_sort q (x ∷ xs) p =
      filter_insert q x (sort t xs) (sorted xs p.1)
      ∙ (ap (λ (ys : List X). cond (q x) (insert t x ys) ys) (filter_sort q xs p.1)
      ∙ sym (inside (sort t) (q x) (x ∷ filter q xs) (filter q xs)))
