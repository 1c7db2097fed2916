-- Lists of registers of which no two work on one block.
use Rattle.std.proofs.Common.{◌≡◌, ℕ, ◌==◌, Bool, true, false, List, [], ◌∷◌, ◌++◌, map, filter, Some, refl, sym, ◌∙◌, ap, inl, inr}
use Rattle.std.specs.List.{AllByRecursion}
use Rattle.std.proofs.lemmas.Bool.{cases_Bool, or_parts, or_from}
use Rattle.std.specs.Prelude.{◌⊎◌}
use Rattle.tl_registers.specs.declared.register.Register.{Register}
use Rattle.tl_registers.specs.Agree.{AreApart}
use Rattle.tl_registers.specs.Register.{works_on}
use Rattle.tl_registers.specs.Registers.{is_busy, register_of}

-- ## What holds of each register

-- what follows from what holds of each holds of each
pub each-follows : (P Q : Register → Type 0) (xs : List Register) → ((r : Register) → P r → Q r) → AllByRecursion P xs → AllByRecursion Q xs
each-follows P Q [] f h = tt
each-follows P Q (r ∷ rest) f h = (f r h.0, each-follows P Q rest f h.1)

-- and what follows from two things that hold of each
pub each-both : (P Q R : Register → Type 0) (xs : List Register) → ((r : Register) → P r → Q r → R r) → AllByRecursion P xs → AllByRecursion Q xs
    → AllByRecursion R xs
each-both P Q R [] f h g = tt
each-both P Q R (r ∷ rest) f h g = (f r h.0 g.0, each-both P Q R rest f h.1 g.1)

-- what holds of each once it is changed holds of those that are changed
pub each-map : (P : Register → Type 0) (f : Register → Register) (xs : List Register) → AllByRecursion (λ r. P (f r)) xs → AllByRecursion P (map f xs)
each-map P f [] h = tt
each-map P f (r ∷ rest) h = (h.0, each-map P f rest h.1)

-- of those that pass a test
pub each-filter : (P : Register → Type 0) (test : Register → Bool) (xs : List Register) → AllByRecursion (λ r. test r ≡ true → P r) xs
    → AllByRecursion P (filter test xs)
each-filter P test [] h = tt
each-filter P test (r ∷ rest) h =
    elim (cases_Bool (test r)) [
      | inl e ↦ rw e (h.0 e, each-filter P test rest h.1)
      | inr e ↦ rw e (each-filter P test rest h.1)
    ]

-- what holds of each, and of one put last, holds of all of them
pub each-end : (P : Register → Type 0) (xs : List Register) (r : Register) → AllByRecursion P xs → P r → AllByRecursion P (xs ++ r ∷ [])
each-end P [] r h one = (one, tt)
each-end P (x ∷ rest) r h one = (h.0, each-end P rest r h.1 one)

-- ## Busy blocks

-- with one register put last, a block that is not busy was not before, and the last one does not work on it
pub busy-end : (block : ℕ) (xs : List Register) (r : Register) → is_busy block (xs ++ r ∷ []) ≡ false
    → (is_busy block xs ≡ false) × (works_on r block ≡ false)
busy-end block [] r h = (refl, (or_parts (works_on r block) false h).0)
busy-end block (x ∷ rest) r h =
    let k = or_parts (works_on x block) (is_busy block (rest ++ r ∷ [])) h in
    let more = busy-end block rest r k.1 in
    (or_from (works_on x block) (is_busy block rest) k.0 more.0, more.1)

-- a block that is not busy, and on which the register put last does not work, is not busy then
end-busy : (block : ℕ) (xs : List Register) (r : Register) → is_busy block xs ≡ false → works_on r block ≡ false
    → is_busy block (xs ++ r ∷ []) ≡ false
end-busy block [] r h one = or_from (works_on r block) false one refl
end-busy block (x ∷ rest) r h one =
    let k = or_parts (works_on x block) (is_busy block rest) h in
    or_from (works_on x block) (is_busy block (rest ++ r ∷ [])) k.0 (end-busy block rest r k.1 one)

-- a test that fails at a block where another fails
falls-to : (a b : Bool) → (a ≡ true → b ≡ true) → b ≡ false → a ≡ false
falls-to true b f h = let bad = f refl in cc
falls-to false b f h = refl

-- registers that work on fewer blocks keep fewer busy
pub busy-map : (f : Register → Register) (block : ℕ) (xs : List Register)
    → ((r : Register) → works_on (f r) block ≡ true → works_on r block ≡ true) → is_busy block xs ≡ false
    → is_busy block (map f xs) ≡ false
busy-map f block [] fewer h = refl
busy-map f block (r ∷ rest) fewer h =
    let k = or_parts (works_on r block) (is_busy block rest) h in
    or_from (works_on (f r) block) (is_busy block (map f rest)) (falls-to (works_on (f r) block) (works_on r block) (fewer r) k.0) (busy-map f block rest fewer k.1)

-- a block that is not busy stays so where registers are left out
busy-filter : (test : Register → Bool) (block : ℕ) (xs : List Register) → is_busy block xs ≡ false
    → is_busy block (filter test xs) ≡ false
busy-filter test block [] h = refl
busy-filter test block (r ∷ rest) h =
    let k = or_parts (works_on r block) (is_busy block rest) h in
    let more = busy-filter test block rest k.1 in
    elim (cases_Bool (test r)) [
      | inl e ↦ rw e (or_from (works_on r block) (is_busy block (filter test rest)) k.0 more)
      | inr e ↦ rw e more
    ]

-- ## No two work on one block

-- no two work on one block either where each comes to work on no further blocks
pub apart-map : (f : Register → Register) (xs : List Register)
    → ((r : Register) (block : ℕ) → works_on (f r) block ≡ true → works_on r block ≡ true) → AreApart xs → AreApart (map f xs)
apart-map f [] fewer h = tt
apart-map f (r ∷ rest) fewer h = (
  λ block on. busy-map f block rest (λ q. fewer q block) (h.0 block (fewer r block on)),
  apart-map f rest fewer h.1,
)

-- and where some are left out
pub apart-filter : (test : Register → Bool) (xs : List Register) → AreApart xs → AreApart (filter test xs)
apart-filter test [] h = tt
apart-filter test (r ∷ rest) h =
    elim (cases_Bool (test r)) [
      | inl e ↦ rw e (λ block on. busy-filter test block rest (h.0 block on), apart-filter test rest h.1)
      | inr e ↦ rw e (apart-filter test rest h.1)
    ]

-- and where one is put last that works on no busy block
pub apart-end : (xs : List Register) (r : Register) → ((block : ℕ) → works_on r block ≡ true → is_busy block xs ≡ false)
    → AreApart xs → AreApart (xs ++ r ∷ [])
apart-end [] r free h = (λ block on. refl, tt)
apart-end (x ∷ rest) r free h = (
  λ block on. end-busy block rest r (h.0 block on)
      (elim (cases_Bool (works_on r block)) [
        | inr e ↦ e
        | inl e ↦ let k = or_parts (works_on x block) (is_busy block rest) (free block e) in let none = k.0 in let bad : true ≡ false = sym on ∙ none in cc
      ]),
  apart-end rest r (λ block on. (or_parts (works_on x block) (is_busy block rest) (free block on)).1) h.1,
)

-- ## One register among the others

-- a register works on no block of this one
abbrev pub IsOther : Register → Register → Type 0
IsOther r q = (block : ℕ) → works_on r block ≡ true → works_on q block ≡ false

-- each register is this one, or works on none of its blocks
abbrev pub IsOneOf : Register → Register → Type 0
IsOneOf r q = (q ≡ r) ⊎ IsOther r q

-- where none of a register's blocks is busy, each of these registers is that one or works on none of them
all-other : (r : Register) (xs : List Register) → ((block : ℕ) → works_on r block ≡ true → is_busy block xs ≡ false)
    → AllByRecursion (IsOneOf r) xs
all-other r [] free = tt
all-other r (q ∷ rest) free = (
  inr (λ block on. (or_parts (works_on q block) (is_busy block rest) (free block on)).0),
  all-other r rest (λ block on. (or_parts (works_on q block) (is_busy block rest) (free block on)).1),
)

-- the blocks of a register that is there are busy
pub found-busy : (own : ℕ) (xs : List Register) (r : Register) (block : ℕ) → register_of own xs ≡ Some r → works_on r block ≡ true
    → is_busy block xs ≡ false → ⊥
found-busy own [] r block h on free = cc
found-busy own (q ∷ rest) r block h on free =
    let k = or_parts (works_on q block) (is_busy block rest) free in
    elim (cases_Bool (q.own == own)) [
      | inl e ↦
          let h2 : Some q ≡ Some r = (rw e at h) in
          let same : q ≡ r = cc in
          let bad : true ≡ false = sym on ∙ (ap (λ (x : Register). works_on x block) (sym same) ∙ k.0) in
          cc
      | inr e ↦ let h2 : register_of own rest ≡ Some r = (rw e at h) in found-busy own rest r block h2 on k.1
    ]

-- each register is the one that is found, or works on none of its blocks
pub one-among : (own : ℕ) (xs : List Register) (r : Register) → AreApart xs → register_of own xs ≡ Some r → AllByRecursion (IsOneOf r) xs
one-among own [] r apart h = cc
one-among own (q ∷ rest) r apart h =
    elim (cases_Bool (q.own == own)) [
      | inl e ↦
          let h2 : Some q ≡ Some r = (rw e at h) in
          let same : q ≡ r = cc in (
            inl same,
            all-other r rest (λ block on. apart.0 block (ap (λ (x : Register). works_on x block) same ∙ on)),
          )
      | inr e ↦
          let h2 : register_of own rest ≡ Some r = (rw e at h) in (
            inr (λ block on. elim (cases_Bool (works_on q block)) [
              | inr n ↦ n
              | inl n ↦ absurd (found-busy own rest r block h2 on (apart.0 block n))
            ]),
            one-among own rest r apart.1 h2,
          )
    ]
