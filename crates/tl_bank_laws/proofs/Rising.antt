-- A list of rising numbers is settled by how often each number stands in it.
use Rattle.std.proofs.Common.{◌≡◌, ℕ, zero, suc, ◌+◌, ◌-◌, ◌<◌, ◌≤◌, ◌==◌, Bool, true, false, if◌then◌else◌, List, [], ◌∷◌, ◌++◌, length, All, refl, ap, arith, eq-eqb, inl, inr}
use Rattle.std.specs.List.Sorted.{IsNonDecreasing}
use Rattle.std.proofs.lemmas.Bool.{cases_order, cases_eq, ne_eqb}
use Rattle.std.proofs.lemmas.List.Elements.{All-head, All-tail, All-nil, All-push}
use Rattle.std.proofs.lemmas.List.Sorted.{IsNonDecreasingBy-push, IsNonDecreasingBy-short}
use Rattle.std.proofs.lemmas.List.Sums.{sum_by-append, sum_by-cons}
use Rattle.tl_bank_spec.specs.Views.{passing_below}
use Rattle.tl_bank_laws.specs.Found.{times, one_of}

-- one more number
times-cons : (b x : ℕ) (xs : List ℕ) → times b (x ∷ xs) ≡ one_of (x == b) + times b xs
times-cons b x xs = sum_by-cons (λ y. if y == b then 1 else 0) x xs

-- one more at the end
pub times-push : (b x : ℕ) (xs : List ℕ) → times b (xs ++ x ∷ []) ≡ times b xs + one_of (x == b)
times-push b x xs =
    let whole = sum_by-append (λ y. if y == b then 1 else 0) xs (x ∷ []) in
    let one = times-cons b x [] in
    omega arith

-- the first number stands there
times-first : (x : ℕ) (xs : List ℕ) → times x (x ∷ xs) ≡ 1 + times x xs
times-first x xs =
    let one : one_of (x == x) ≡ 1 = ap one_of (eq-eqb x x refl) in
    let all = times-cons x x xs in
    omega arith

-- a number below all others does not
times-below : (x b : ℕ) (ys : List ℕ) → All (λ y. x ≤ y) ys → b < x → times b ys ≡ 0
times-below x b [] all l = refl
times-below x b (y ∷ ys) all l =
    let first : x ≤ y = All-head (λ y. x ≤ y) y ys all in
    let other : one_of (y == b) ≡ 0 = ap one_of (ne_eqb y b (λ e. absurd (omega arith))) in
    let rest = times-below x b ys (All-tail (λ y. x ≤ y) y ys all) l in
    let all_of = times-cons b y ys in
    omega arith

-- the first of rising numbers is the least
least-first : (x : ℕ) (xs : List ℕ) → IsNonDecreasing (x ∷ xs) → All (λ y. x ≤ y) (x ∷ xs)
least-first x xs h k d l = h 0 k d (omega arith) l

-- the others rise too
rest-rises : (x : ℕ) (xs : List ℕ) → IsNonDecreasing (x ∷ xs) → IsNonDecreasing xs
rest-rises x xs h i j d a b = h (suc i) (suc j) d (omega arith) (omega arith)

-- so the first is the same
first-same : (x y : ℕ) (xs ys : List ℕ) → IsNonDecreasing (x ∷ xs) → IsNonDecreasing (y ∷ ys)
    → times x (x ∷ xs) ≡ times x (y ∷ ys) → times y (x ∷ xs) ≡ times y (y ∷ ys) → x ≡ y
first-same x y xs ys up too at_x at_y =
    let first = times-first x xs in
    let second = times-first y ys in
    elim (cases_order x y) [
      | inl same ↦ same
      | inr (inl less) ↦ let none = times-below y x (y ∷ ys) (least-first y ys too) less in absurd (omega arith)
      | inr (inr more) ↦ let none = times-below x y (x ∷ xs) (least-first x xs up) more in absurd (omega arith)
    ]

-- rising lists in which each number stands as often are one list
pub rising-same : (xs ys : List ℕ) → IsNonDecreasing xs → IsNonDecreasing ys → ((b : ℕ) → times b xs ≡ times b ys) → xs ≡ ys
rising-same [] [] up too same = refl
rising-same [] (y ∷ ys) up too same = let none = same y in let some = times-first y ys in absurd (omega arith)
rising-same (x ∷ xs) [] up too same = let none = same x in let some = times-first x xs in absurd (omega arith)
rising-same (x ∷ xs) (y ∷ ys) up too same =
    let first : x ≡ y = first-same x y xs ys up too (same x) (same y) in
    let rest : (b : ℕ) → times b xs ≡ times b ys =
    λ b.
    let all = same b in
    let one = times-cons b x xs in
    let other = times-cons b y ys in
    let equal : one_of (x == b) ≡ one_of (y == b) = ap (λ (z : ℕ). one_of (z == b)) first in
    omega arith in
    rw (first, rising-same xs ys (rest-rises x xs up) (rest-rises y ys too) rest) refl

-- ## The numbers that pass a test

-- those below n, and n where it passes, are below n + 1
below-step : (t : Bool) (n : ℕ) (xs : List ℕ) → All (λ y. y < n) xs → All (λ y. y < suc n) (if t then xs ++ n ∷ [] else xs)
below-step true n xs below =
    All-push (λ y. y < suc n) xs n (λ k d l. let less = below k d l in omega arith) (omega arith)
below-step false n xs below = λ k d l. let less = below k d l in omega arith

-- they are below n
passing-below : (test : ℕ → Bool) (n : ℕ) → All (λ y. y < n) (passing_below test n)
passing-below test zero = All-nil (λ y. y < zero)
passing-below test (suc n) = below-step (test n) n (passing_below test n) (passing-below test n)

-- rising numbers below n, and n where it passes, rise
rises-step : (t : Bool) (n : ℕ) (xs : List ℕ) → All (λ y. y < n) xs → IsNonDecreasing xs
    → IsNonDecreasing (if t then xs ++ n ∷ [] else xs)
rises-step true n xs below up =
    IsNonDecreasingBy-push (λ x. x) xs n up
    (λ d some. let less = below (length xs - 1) d (omega arith) in omega arith)
rises-step false n xs below up = up

-- they rise
pub passing-rises : (test : ℕ → Bool) (n : ℕ) → IsNonDecreasing (passing_below test n)
passing-rises test zero = IsNonDecreasingBy-short (λ x. x) [] (omega arith)
passing-rises test (suc n) = rises-step (test n) n (passing_below test n) (passing-below test n) (passing-rises test n)

-- a number that is not below n does not stand there
times-above : (n b : ℕ) (xs : List ℕ) → All (λ y. y < n) xs → n ≤ b → times b xs ≡ 0
times-above n b [] all l = refl
times-above n b (y ∷ ys) all l =
    let first : y < n = All-head (λ y. y < n) y ys all in
    let other : one_of (y == b) ≡ 0 = ap one_of (ne_eqb y b (λ e. absurd (omega arith))) in
    let rest = times-above n b ys (All-tail (λ y. y < n) y ys all) l in
    let all_of = times-cons b y ys in
    omega arith

-- how often a number stands in the list with n, where n passes
times-step : (t : Bool) (n b : ℕ) (xs : List ℕ) → times b (if t then xs ++ n ∷ [] else xs) ≡ times b xs + (if t then one_of (n == b) else 0)
times-step true n b xs = times-push b n xs
times-step false n b xs = omega arith

-- n itself stands there where it passes
times-here : (t : Bool) (n b : ℕ) → n ≡ b → (if t then one_of (n == b) else 0) ≡ one_of t
times-here true n b e = ap one_of (eq-eqb n b e)
times-here false n b e = refl

-- no other number does
times-there : (t : Bool) (n b : ℕ) → (n == b) ≡ false → (if t then one_of (n == b) else 0) ≡ 0
times-there true n b other = ap one_of other
times-there false n b other = refl

-- each number below n that passes stands there once
pub passing-times : (test : ℕ → Bool) (n b : ℕ) → b < n → times b (passing_below test n) ≡ one_of (test b)
passing-times test zero b l = absurd (omega arith)
passing-times test (suc n) b l =
    let step = times-step (test n) n b (passing_below test n) in
    elim (cases_eq n b) [
      | inl same ↦
          let none = times-above n b (passing_below test n) (passing-below test n) (omega arith) in
          let here = times-here (test n) n b same in
          let passes : one_of (test n) ≡ one_of (test b) = ap (λ (k : ℕ). one_of (test k)) same in
          omega arith
      | inr other ↦
          let before = passing-times test n b (omega arith) in
          let none = times-there (test n) n b (ne_eqb n b other) in
          omega arith
    ]

-- and no other number
pub passing-none : (test : ℕ → Bool) (n b : ℕ) → n ≤ b → times b (passing_below test n) ≡ 0
passing-none test n b l = times-above n b (passing_below test n) (passing-below test n) l

-- what was shown of the numbers that pass holds of those that stand there
passes-step : (P : ℕ → Type 0) (t : Bool) (n : ℕ) (xs : List ℕ) → (t ≡ true → P n) → All P xs → All P (if t then xs ++ n ∷ [] else xs)
passes-step P true n xs here all = All-push P xs n all (here refl)
passes-step P false n xs here all = all

pub passing-all : (P : ℕ → Type 0) (test : ℕ → Bool) (n : ℕ) → ((b : ℕ) → test b ≡ true → P b) → All P (passing_below test n)
passing-all P test zero h = All-nil P
passing-all P test (suc n) h = passes-step P (test n) n (passing_below test n) (h n) (passing-all P test n h)
