-- The places of what passes a test.
use Rattle.std.proofs.Common.{◌≡◌, ◌+◌, ◌<◌, ◌≤◌, ℕ, zero, suc, Bool, true, false, cond, List, [], ◌∷◌, ◌++◌, length, take, drop, get_or, Some, refl, sym, ap, ◌∙◌, arith}
use Rattle.std.proofs.lemmas.List.{drop_more, take_more}
use Rattle.std.specs.List.{slice_get}
use Rattle.tlwire_search.specs.declared.seen.Seen.{Seen}
use Rattle.tlwire_exchanges.specs.Exchange.{answers, opens}
use Rattle.tlwire_exchanges.specs.Opened.{answers_from, number_at, places_from}
use Rattle.tlwire_exchanges.specs.declared.exchange.Exchange.{Exchange}

-- as many more behind one that passes
grown : (t : Bool) (n more : ℕ) (xs ys : List ℕ) → length ys ≡ length xs + more
    → length (cond t (n ∷ ys) ys) ≡ length (cond t (n ∷ xs) xs) + more
grown true n more xs ys is = omega arith
grown false n more xs ys is = is

-- one where it passes
one_more : (t : Bool) (n : ℕ) → length (cond t (n ∷ []) []) ≡ 0 + cond t 1 0
one_more true n = refl
one_more false n = refl

-- how many there are with one more line
count_more : (test : Seen → Bool) (n : ℕ) (xs : List Seen) (s : Seen)
    → length (places_from test n (xs ++ s ∷ [])) ≡ length (places_from test n xs) + cond (test s) 1 0
count_more test n [] s = one_more (test s) n
count_more test n (x ∷ xs) s =
    grown (test x) n (cond (test s) 1 0) (places_from test (suc n) xs) (places_from test (suc n) (xs ++ s ∷ []))
    (count_more test (suc n) xs s)

-- the number of those opened before the next line
pub number_next : (e : Exchange) (seen : List Seen) (i : ℕ) (s : Seen) → i < length seen → s ≡ get_or seen i s
    → number_at e (i + 1) seen ≡ number_at e i seen + cond (opens e s) 1 0
number_next e seen i s lt is =
    ap (λ (xs : List Seen). length (places_from (opens e) 0 xs))
    (take_more seen i s lt ∙ ap (λ (y : Seen). take i seen ++ y ∷ []) (sym is))
    ∙ count_more (opens e) 0 (take i seen) s

-- the answers from a place on, with one line more before them
pub answers_before : (e : Exchange) (seen : List Seen) (i : ℕ) (s : Seen) → i < length seen → s ≡ get_or seen i s
    → answers_from e i seen ≡ cond (answers e s) (i ∷ answers_from e (i + 1) seen) (answers_from e (i + 1) seen)
answers_before e seen i s lt is =
    let rest : ℕ → List ℕ = λ n. places_from (answers e) n (drop (i + 1) seen) in
    let one : suc i ≡ i + 1 = omega arith in
    ap (λ (xs : List Seen). places_from (answers e) i xs)
    (drop_more seen i s lt ∙ ap (λ (x : Seen). x ∷ drop (i + 1) seen) (sym is))
    ∙ ap (λ (n : ℕ). cond (answers e s) (i ∷ rest n) (rest n)) one

-- it is the first line, or one of the rest
between_more : (t : Bool) (n len : ℕ) (ps : List ℕ) (k p : ℕ)
    → ((k : ℕ) → slice_get ps k ≡ Some p → (suc n ≤ p) × (p < suc n + len))
    → slice_get (cond t (n ∷ ps) ps) k ≡ Some p → (n ≤ p) × (p < n + suc len)
between_more true n len ps zero p rest is = let own : n ≡ p = cc in (omega arith, omega arith)
between_more true n len ps (suc k) p rest is =
    let there : (suc n ≤ p) × (p < suc n + len) = rest k is in (omega arith, omega arith)
between_more false n len ps k p rest is =
    let there : (suc n ≤ p) × (p < suc n + len) = rest k is in (omega arith, omega arith)

-- each is the place of one of the lines
pub between : (test : Seen → Bool) (n : ℕ) (xs : List Seen) (k p : ℕ)
    → slice_get (places_from test n xs) k ≡ Some p → (n ≤ p) × (p < n + length xs)
between test n [] k p is = cc
between test n (x ∷ xs) k p is =
    between_more (test x) n (length xs) (places_from test (suc n) xs) k p
    (λ k there. between test (suc n) xs k p there) is
