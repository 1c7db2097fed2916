-- A map at reset: lists that grow by one item, and blocks whose clients hold nothing.
use Rattle.std.proofs.Common.{◌≡◌, ℕ, ◌+◌, ◌<◌, List, [], ◌∷◌, ◌++◌, None, length, get_or, replicate, inl, inr, sym, ap, subst, ◌∙◌, arith}
use Rattle.std.proofs.Math.Seq.{get_or-append_seam}
use Rattle.std.proofs.lemmas.Bool.{cases_lt}
use Rattle.std.proofs.lemmas.List.{get_or-replicate, get_or_append_left, get_or_past, length-replicate, length_push}
use Rattle.tl_protocol.specs.Client.{fresh_client}
use Rattle.tl_protocol.specs.Protocol.{Block, reset}
use Rattle.tl_protocol.specs.declared.client.Client.{Client}
use Rattle.tl_protocol.specs.declared.home.Outward.TheVariants.{Quiet}

-- what is so of each item is so of each where there is one more
more : {X : Type 0} (P : ℕ → X → Type 0) (xs : List X) (x d : X) (i : ℕ) → length xs ≡ i
    → ((k : ℕ) → k < i → P k (get_or xs k d)) → P i x → (k : ℕ) → k < i + 1 → P k (get_or (xs ++ x ∷ []) k d)
more {X = X} P xs x d i len each last k lt = elim (cases_lt k i) [
  | inl before ↦ subst (λ (y : X). P k y) (sym (get_or_append_left xs (x ∷ []) d k (omega (arith, len, before)))) (each k before)
  | inr after ↦
      let here : length xs ≡ k = omega (arith, len, lt, after) in
      subst (λ (n : ℕ). P n (get_or (xs ++ x ∷ []) n d)) here
      (subst (λ (y : X). P (length xs) y) (sym (get_or-append_seam xs x [] d)) (subst (λ (n : ℕ). P n x) (sym len) last))
]

-- the same of a list that is that one with one item more
pub each_of_more : {X : Type 0} (P : ℕ → X → Type 0) (xs ys : List X) (x d : X) (i : ℕ) → ys ≡ xs ++ x ∷ [] → length xs ≡ i
    → ((k : ℕ) → k < i → P k (get_or xs k d)) → P i x → (k : ℕ) → k < i + 1 → P k (get_or ys k d)
each_of_more {X = X} P xs ys x d i grown len each last k lt =
    subst (λ (zs : List X). P k (get_or zs k d)) (sym grown) (more P xs x d i len each last k lt)

-- and there is one more
pub one_more : {X : Type 0} (xs ys : List X) (x : X) (i : ℕ) → ys ≡ xs ++ x ∷ [] → length xs ≡ i → length ys ≡ i + 1
one_more {X = X} xs ys x i grown len = ap (λ (zs : List X). length zs) grown ∙ (length_push xs x ∙ ap (λ (n : ℕ). n + 1) len)

-- each of some fresh clients is fresh, and so is one past the last
fresh_there : (n c : ℕ) → get_or (replicate n fresh_client) c fresh_client ≡ fresh_client
fresh_there n c = elim (cases_lt c n) [
  | inl lt ↦ get_or-replicate n c fresh_client fresh_client lt
  | inr ge ↦ get_or_past (replicate n fresh_client) c fresh_client (omega (arith, ge, length-replicate n fresh_client))
]

-- a block that only the memory has, with its clients
abbrev pub untouched : List ℕ → (ℕ → Client) → Block
untouched memory client = record { memory = memory; home = None; accepted = None; outward = Quiet; client = client }

-- with fresh clients it is one at reset
pub untouched_is_reset : (memory : List ℕ) (n : ℕ) → untouched memory (λ c. get_or (replicate n fresh_client) c fresh_client) ≡ reset memory
untouched_is_reset memory n = λ i. untouched memory (λ c. fresh_there n c i)
