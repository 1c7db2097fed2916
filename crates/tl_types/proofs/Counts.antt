-- Counts of two tests.
use Rattle.std.proofs.Common.{◌≡◌, ◌≢◌, ℕ, zero, suc, ◌+◌, ◌<◌, Bool, false, if◌then◌else◌, refl, arith, inl, inr}
use Rattle.std.proofs.lemmas.Bool.{cases_eq}
use Rattle.tl_types.specs.Count.{count_below}

-- tests that agree below n count the same
pub count_below-same : (p q : ℕ → Bool) (n : ℕ) → ((k : ℕ) → k < n → p k ≡ q k) → count_below p n ≡ count_below q n
count_below-same p q zero same = refl
count_below-same p q (suc n) same =
    let here : p n ≡ q n = same n (omega arith) in
    rw (count_below-same p q n (λ k h. same k (omega arith)), here) refl

-- a test that nothing passes counts none
pub count_below-none : (p : ℕ → Bool) (n : ℕ) → ((k : ℕ) → k < n → p k ≡ false) → count_below p n ≡ 0
count_below-none p zero none = refl
count_below-none p (suc n) none =
    let here : p n ≡ false = none n (omega arith) in
    rw (count_below-none p n (λ k h. none k (omega arith)), here) refl

-- tests that agree but at one number differ in their counts by that number
pub count_below-change : (p q : ℕ → Bool) (n at : ℕ) → at < n → ((k : ℕ) → k ≢ at → p k ≡ q k)
    → count_below p n + (if q at then 1 else 0) ≡ count_below q n + (if p at then 1 else 0)
count_below-change p q zero at h same = absurd (omega arith)
count_below-change p q (suc n) at h same =
    elim (cases_eq n at) [
      | inl here ↦
          let below : count_below p n ≡ count_below q n = count_below-same p q n (λ k l. same k (λ e. absurd (omega arith))) in
          rw (below, here) (omega arith)
      | inr other ↦
          let before : count_below p n + (if q at then 1 else 0) ≡ count_below q n + (if p at then 1 else 0) =
          count_below-change p q n at (omega arith) same in
          let agree : p n ≡ q n = same n other in
          rw agree (omega arith)
    ]
