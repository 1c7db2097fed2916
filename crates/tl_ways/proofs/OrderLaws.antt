-- Laws of the order of ways, and of the choice.
use Rattle.std.proofs.Common.{◌≡◌, ℕ, zero, suc, ◌+◌, ◌<◌, ◌≤◌, Bool, true, false, List, [], ◌∷◌, ◌++◌, length, get_or, take, refl, ap, sym, ◌∙◌, arith, inl, inr}
use Rattle.std.specs.Prelude.{Option, None, Some, ◌==◌, find, ◌⊎◌, if◌then◌else◌}
use Rattle.std.proofs.lemmas.Bool.{cases_eq}
use Rattle.std.proofs.lemmas.Bool.Decides.{nat_tests}
use Rattle.std.proofs.lemmas.Grind.{common_steps, take_at_read}
use Rattle.tl_ways.specs.Orders.{IsAmong, rising, without_way, touched}

-- ## Membership

-- a way put last is among them
pub among-end : (way : ℕ) (xs : List ℕ) → IsAmong way (xs ++ way ∷ [])
among-end way [] = inl refl
among-end way (x ∷ xs) = inr (among-end way xs)

-- and those that were there still are
pub among-front : (way last : ℕ) (xs : List ℕ) → IsAmong way xs → IsAmong way (xs ++ last ∷ [])
among-front way last [] none = absurd none
among-front way last (x ∷ xs) (inl same) = inl same
among-front way last (x ∷ xs) (inr among) = inr (among-front way last xs among)

-- and no other is
pub among-either : (way last : ℕ) (xs : List ℕ) → IsAmong way (xs ++ last ∷ []) → (way ≡ last) ⊎ IsAmong way xs
among-either way last [] (inl same) = inl same
among-either way last [] (inr none) = absurd none
among-either way last (x ∷ xs) (inl same) = inr (inl same)
among-either way last (x ∷ xs) (inr among) =
    elim (among-either way last xs among) [ inl same ↦ inl same | inr rest ↦ inr (inr rest) ]

-- the numbers below n are those that rise to it
pub among-rising : (n way : ℕ) → way < n → IsAmong way (rising n)
among-rising zero way below = absurd (omega arith)
among-rising (suc n) way below =
    elim (cases_eq way n) [
      | inl same ↦ rw same (among-end n (rising n))
      | inr other ↦ among-front way n (rising n) (among-rising n way (grind (arith, other)))
    ]

-- and no other number is
pub rising-only : (n way : ℕ) → IsAmong way (rising n) → way < n
rising-only zero way none = absurd none
rising-only (suc n) way among =
    elim (among-either way n (rising n) among) [
      | inl same ↦ omega arith
      | inr rest ↦ let below = rising-only n way rest in omega arith
    ]

-- there are n of them
pub length-rising : (n : ℕ) → length (rising n) ≡ n
length-rising zero = refl
length-rising (suc n) = let rest = length-rising n in grind (arith, common_steps, rest)

-- ## What a touch does

-- the head is kept or left out
pub without-same : (way first : ℕ) (rest : List ℕ) → first ≡ way → without_way way (first ∷ rest) ≡ without_way way rest
without-same way first rest same =
    let test : (first == way) ≡ true = grind (arith, nat_tests) in
    rw test refl

-- the head is kept where it is another way
pub without-other : (way first : ℕ) (rest : List ℕ) → (first ≡ way → ⊥) → without_way way (first ∷ rest) ≡ first ∷ without_way way rest
without-other way first rest other =
    let test : (first == way) ≡ false = grind (arith, nat_tests, other) in
    rw test refl

-- one way more is passed
pub without-append : (way : ℕ) (xs ys : List ℕ) → without_way way (xs ++ ys) ≡ without_way way xs ++ without_way way ys
without-append way [] ys = refl
without-append way (x ∷ xs) ys =
    elim (cases_eq x way) [
      | inl same ↦
          without-same way x (xs ++ ys) same ∙ without-append way xs ys
          ∙ ap (λ (zs : List ℕ). zs ++ without_way way ys) (sym (without-same way x xs same))
      | inr other ↦
          without-other way x (xs ++ ys) other ∙ ap (λ (zs : List ℕ). x ∷ zs) (without-append way xs ys)
          ∙ ap (λ (zs : List ℕ). zs ++ without_way way ys) (sym (without-other way x xs other))
    ]

-- no longer than before
pub length-without : (way : ℕ) (xs : List ℕ) → length (without_way way xs) ≤ length xs
length-without way [] = omega arith
length-without way (x ∷ xs) =
    let rest = length-without way xs in
    elim (cases_eq x way) [
      | inl same ↦ rw (without-same way x xs same) (omega (arith, rest))
      | inr other ↦ rw (without-other way x xs other) (omega (arith, rest))
    ]

-- shorter where the way was there
pub length-without-among : (way : ℕ) (xs : List ℕ) → IsAmong way xs → length (without_way way xs) < length xs
length-without-among way [] none = absurd none
length-without-among way (x ∷ xs) (inl same) =
    let rest = length-without way xs in
    rw (without-same way x xs (sym same)) (omega (arith, rest))
length-without-among way (x ∷ xs) (inr among) =
    let rest = length-without-among way xs among in
    elim (cases_eq x way) [
      | inl same ↦ rw (without-same way x xs same) (omega (arith, rest))
      | inr other ↦ rw (without-other way x xs other) (omega (arith, rest))
    ]

-- another way stays
pub among-without : (way other : ℕ) (xs : List ℕ) → (other ≡ way → ⊥) → IsAmong other xs → IsAmong other (without_way way xs)
among-without way other [] apart none = absurd none
among-without way other (x ∷ xs) apart (inl same) =
    rw (without-other way x xs (λ is. apart (same ∙ is))) (inl same)
among-without way other (x ∷ xs) apart (inr among) =
    elim (cases_eq x way) [
      | inl same ↦ rw (without-same way x xs same) (among-without way other xs apart among)
      | inr differ ↦ rw (without-other way x xs differ) (inr (among-without way other xs apart among))
    ]

-- behind a head that stays, what is there after a way leaves was there before
kept : (way other x : ℕ) (xs : List ℕ) → ((among : IsAmong other (without_way way xs)) → IsAmong other xs)
    → IsAmong other (x ∷ without_way way xs) → IsAmong other (x ∷ xs)
kept way other x xs rest (inl same) = inl same
kept way other x xs rest (inr among) = inr (rest among)

-- and none comes
pub without-among : (way other : ℕ) (xs : List ℕ) → IsAmong other (without_way way xs) → IsAmong other xs
without-among way other [] none = none
without-among way other (x ∷ xs) among =
    elim (cases_eq x way) [
      | inl same ↦ inr (without-among way other xs (rw (without-same way x xs same) at among))
      | inr differ ↦ kept way other x xs (without-among way other xs) (rw (without-other way x xs differ) at among)
    ]

-- after a touch the order has each way that it had
pub among-touched : (way other : ℕ) (order : List ℕ) → IsAmong other order → IsAmong other (touched way order)
among-touched way other order among =
    elim (cases_eq other way) [
      | inl same ↦ rw same (among-end way (without_way way order))
      | inr apart ↦ among-front other way (without_way way order) (among-without way other order apart among)
    ]

-- and no other
pub touched-only : (way other : ℕ) (order : List ℕ) → IsAmong way order → IsAmong other (touched way order) → IsAmong other order
touched-only way other order there among =
    elim (among-either other way (without_way way order) among) [
      | inl same ↦ rw same there
      | inr rest ↦ without-among way other order rest
    ]

-- and no more
pub length-touched : (way : ℕ) (order : List ℕ) → IsAmong way order → length (touched way order) ≤ length order
length-touched way order there =
    let less = length-without-among way order there in
    grind (arith, common_steps, less)

-- ## The search of an order

-- what is found is the head or in the rest
head-found : (b : Bool) (x way : ℕ) (rest : Option ℕ) → (if b then Some x else rest) ≡ Some way → (x ≡ way) ⊎ (rest ≡ Some way)
head-found true x way rest found = inl (cc)
head-found false x way rest found = inr found

-- where nothing is found, neither is
head-none : (b : Bool) (x : ℕ) (rest : Option ℕ) → (if b then Some x else rest) ≡ None → (b ≡ false) × (rest ≡ None)
head-none true x rest none = absurd (cc)
head-none false x rest none = (refl, none)

-- what is found is there
pub found-among : (test : ℕ → Bool) (xs : List ℕ) (way : ℕ) → find test xs ≡ Some way → IsAmong way xs
found-among test [] way found = absurd (cc)
found-among test (x ∷ xs) way found =
    elim (head-found (test x) x way (find test xs) found) [
      | inl same ↦ inl (sym same)
      | inr rest ↦ inr (found-among test xs way rest)
    ]

-- where nothing is found, all fail
pub none-found : (test : ℕ → Bool) (xs : List ℕ) (way : ℕ) → find test xs ≡ None → IsAmong way xs → test way ≡ false
none-found test [] way none there = absurd there
none-found test (x ∷ xs) way none (inl same) = rw same ((head-none (test x) x (find test xs) none).0)
none-found test (x ∷ xs) way none (inr rest) = none-found test xs way ((head-none (test x) x (find test xs) none).1) rest

-- the first that passes is found
pub find-first : (test : ℕ → Bool) (xs : List ℕ) (i x : ℕ) → i < length xs → x ≡ get_or xs i x → find test (take i xs) ≡ None
    → test x ≡ true → find test xs ≡ Some x
find-first test [] i x inside is none passes = absurd (omega arith)
find-first test (y ∷ ys) zero x inside is none passes = rw (← is, passes) refl
find-first test (y ∷ ys) (suc i) x inside is none passes =
    let parts = head-none (test y) y (find test (take i ys)) none in
    rw parts.0 (find-first test ys i x (omega arith) is parts.1 passes)

-- an element is among the list
pub among-at : (xs : List ℕ) (i x : ℕ) → i < length xs → x ≡ get_or xs i x → IsAmong x xs
among-at [] i x inside is = absurd (omega arith)
among-at (y ∷ ys) zero x inside is = inl is
among-at (y ∷ ys) (suc i) x inside is = inr (among-at ys i x (omega arith) is)

-- a step of a touch
pub touch_step : (way x i : ℕ) (xs order : List ℕ) → i < length xs → x ≡ get_or xs i x → order ≡ without_way way (take i xs)
    → without_way way (take (i + 1) xs) ≡ order ++ without_way way (x ∷ [])
touch_step way x i xs order inside is so_far =
    let longer : take (i + 1) xs ≡ take i xs ++ x ∷ [] = rw is ((take_at_read xs i x inside).1) in
    rw (longer, without-append way (take i xs) (x ∷ []), so_far) refl

-- all of a list
pub take-all : (xs : List ℕ) (i : ℕ) → length xs ≤ i → take i xs ≡ xs
take-all xs i past = grind (arith, common_steps)
