-- Stores that are made one after another before a message.
use Rattle.std.proofs.Common.{◌≡◌, ◌⊎◌, ℕ, suc, ◌+◌, Bool, true, false, if◌then◌else◌, List, [], ◌∷◌, ◌++◌, length, refl, sym, ◌∙◌, ap, subst, length-append, arith}
use Rattle.std.proofs.lemmas.List.{append-nil}
use Rattle.tl_types.specs.Count.{count_below}
use Rattle.tl_trace.specs.NetworkState.{NetworkState}
use Rattle.tl_embed.specs.Calls.{IsPlayed, IsStarved}
use Rattle.tl_embed.specs.Saw.{AreStored, StoresUpTo, is_stored, places_below, store_of}
use Rattle.tl_embed.specs.Seen.{bytes_seen}
use Rattle.tl_embed.specs.declared.answer.Answer.{Answer}
use Rattle.tl_embed.specs.declared.seen.Seen.{Seen}
use Rattle.tl_embed.specs.declared.stores.Inferred.{Inferred}

-- one number more is looked at
pub count-next : (test : ℕ → Bool) (n : ℕ) (t : Bool) → test n ≡ t → count_below test (n + 1) ≡ count_below test n + (if t then 1 else 0)
count-next test n t h =
    let next : suc n ≡ n + 1 = omega arith in
    subst (λ (k : ℕ). count_below test k ≡ count_below test n + (if t then 1 else 0)) next
    (ap (λ (b : Bool). count_below test n + (if b then 1 else 0)) h)

-- one place more
next-place : (test : ℕ → Bool) (n : ℕ) (t : Bool) → test n ≡ t
    → places_below test (n + 1) ≡ places_below test n ++ (if t then n ∷ [] else [])
next-place test n t h =
    let next : suc n ≡ n + 1 = omega arith in
    subst (λ (k : ℕ). places_below test k ≡ places_below test n ++ (if t then n ∷ [] else [])) next
    (ap (λ (b : Bool). places_below test n ++ (if b then n ∷ [] else [])) h)

-- one store more
stored-snoc : (i : Inferred) (s : Seen) (places : List ℕ) (place : ℕ) (old mid new : NetworkState) (told : Answer)
    → AreStored i s places old mid
    → IsPlayed s.index (store_of i s place) mid new told ⊎ IsStarved (store_of i s place) mid new told → told.status ≡ 0
    → AreStored i s (places ++ place ∷ []) old new
stored-snoc i s [] place old mid new told h asked zero_told = (
  new,
  told,
  subst (λ (x : NetworkState). IsPlayed s.index (store_of i s place) x new told ⊎ IsStarved (store_of i s place) x new told) h asked,
  zero_told,
  refl,
)
stored-snoc i s (first ∷ places) place old mid new told h asked zero_told =
    (h.0, h.1, h.2, h.3, stored-snoc i s places place h.0 mid new told h.4 asked zero_told)

-- none so far
pub none-stored : (i : Inferred) (s : Seen) (old : NetworkState) → StoresUpTo i s 0 old old 0
none-stored i s old = record { stored = refl; count = refl }

-- a store at a place was done
pub stored-next : (i : Inferred) (s : Seen) (place : ℕ) (old mid new : NetworkState) (made : ℕ) (told : Answer)
    → StoresUpTo i s place old mid made → is_stored i (bytes_seen s) place ≡ true
    → IsPlayed s.index (store_of i s place) mid new told ⊎ IsStarved (store_of i s place) mid new told → told.status ≡ 0
    → StoresUpTo i s (place + 1) old new (made + 1)
stored-next i s place old mid new made told h wanted asked zero_told =
    let more = next-place (is_stored i (bytes_seen s)) place true wanted in
    record {
      stored =
          subst (λ (places : List ℕ). AreStored i s places old new) (sym more)
          (stored-snoc i s (places_below (is_stored i (bytes_seen s)) place) place old mid new told h.stored asked zero_told);
      count =
          ap (λ (n : ℕ). n + 1) h.count
          ∙ sym (length-append (places_below (is_stored i (bytes_seen s)) place) (place ∷ []))
          ∙ ap (λ (places : List ℕ). length places) (sym more);
    }

-- there is none at a place
pub skipped-next : (i : Inferred) (s : Seen) (place : ℕ) (old mid : NetworkState) (made : ℕ) → StoresUpTo i s place old mid made
    → is_stored i (bytes_seen s) place ≡ false → StoresUpTo i s (place + 1) old mid made
skipped-next i s place old mid made h not_wanted =
    let same = next-place (is_stored i (bytes_seen s)) place false not_wanted ∙ append-nil (places_below (is_stored i (bytes_seen s)) place) in
    record {
      stored = subst (λ (places : List ℕ). AreStored i s places old mid) (sym same) h.stored;
      count = h.count ∙ ap (λ (places : List ℕ). length places) (sym same);
    }
