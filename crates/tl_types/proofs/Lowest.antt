-- Laws of the lowest number that passes a test.
use Rattle.std.proofs.Common.{◌≡◌, ℕ, zero, suc, ◌<◌, Bool, true, false, Option, Some, None, refl, sym, ◌∙◌, ap, arith, inl, inr}
use Rattle.std.specs.Prelude.{◌⊎◌}
use Rattle.std.proofs.lemmas.Bool.{cases_eq}
use Rattle.tl_types.specs.Lowest.{lowest, or_this}

-- where neither the number found is there nor n passes, there is none
or_this-none : (o : Option ℕ) (t : Bool) (n : ℕ) → or_this o t n ≡ None → (o ≡ None) × (t ≡ false)
or_this-none None true n h = cc
or_this-none None false n h = (refl, refl)
or_this-none (Some x) t n h = cc

-- it is the number that was found, or n, which passes
or_this-is : (o : Option ℕ) (t : Bool) (n c : ℕ) → or_this o t n ≡ Some c → (o ≡ Some c) ⊎ ((t ≡ true) × (n ≡ c))
or_this-is None true n c h = inr (refl, cc)
or_this-is None false n c h = cc
or_this-is (Some x) t n c h = inl h

-- where there is no lowest, none passes
pub lowest-none : (test : ℕ → Bool) (n x : ℕ) → lowest test n ≡ None → x < n → test x ≡ false
lowest-none test zero x h l = absurd (omega arith)
lowest-none test (suc n) x h l =
    let k = or_this-none (lowest test n) (test n) n h in
    elim (cases_eq x n) [
      | inl e ↦ ap test e ∙ k.1
      | inr e ↦ lowest-none test n x k.0 (omega arith)
    ]

-- the lowest is below n, and passes
pub lowest-some : (test : ℕ → Bool) (n c : ℕ) → lowest test n ≡ Some c → (c < n) × (test c ≡ true)
lowest-some test zero c h = cc
lowest-some test (suc n) c h =
    elim (or_this-is (lowest test n) (test n) n c h) [
      | inl k ↦ let r = lowest-some test n c k in (omega (arith, r.0), r.1)
      | inr k ↦ (omega (arith, k.1), ap test (sym k.1) ∙ k.0)
    ]

-- where none passes there is no lowest
pub none-lowest : (test : ℕ → Bool) (n : ℕ) → ((x : ℕ) → x < n → test x ≡ false) → lowest test n ≡ None
none-lowest test zero none = refl
none-lowest test (suc n) none =
    let before = none-lowest test n (λ x l. none x (omega arith)) in
    let here = none n (omega arith) in
    rw (before, here) refl

-- the same tests have the same lowest
pub lowest-same : (p q : ℕ → Bool) (n : ℕ) → ((x : ℕ) → x < n → p x ≡ q x) → lowest p n ≡ lowest q n
lowest-same p q zero same = refl
lowest-same p q (suc n) same =
    let before = lowest-same p q n (λ x l. same x (omega arith)) in
    let here = same n (omega arith) in
    rw (before, here) refl

-- one that passes is the lowest where no other does
pub lowest-one : (test : ℕ → Bool) (n i : ℕ) → i < n → test i ≡ true → ((x : ℕ) → x < n → test x ≡ true → x ≡ i)
    → lowest test n ≡ Some i
lowest-one test n i l h one =
    elim (lowest test n) as (λ o. lowest test n ≡ o → o ≡ Some i) [
      | None ↦ λ e. let none = lowest-none test n i e l in let bad : true ≡ false = sym h ∙ none in cc
      | Some c ↦ λ e. let some = lowest-some test n c e in ap Some (one c some.0 some.1)
    ] refl

-- one that passes, and below which none does, is the lowest
pub lowest-at : (test : ℕ → Bool) (i n : ℕ) → i < n → lowest test i ≡ None → test i ≡ true → lowest test n ≡ Some i
lowest-at test i zero below none passes = absurd (omega arith)
lowest-at test i (suc n) below none passes =
    elim (cases_eq i n) [
      | inl same ↦ rw (← same) (rw (none, passes) refl)
      | inr other ↦ rw (lowest-at test i n (omega arith) none passes) refl
    ]
