-- How many keys have a hint, as an entry is put last, added or taken out.
use Rattle.std.proofs.Common.{◌≡◌, ◌≢◌, ℕ, ◌+◌, ◌-◌, ◌%◌, ◌<◌, ◌≤◌, ◌==◌, Bool, true, false, List, [], ◌∷◌, ◌++◌, length, if◌then◌else◌, replicate, refl, sym, ◌∙◌, None, ap, arith, eq-eqb, count_by, inl, inr}
use Rattle.std.specs.Prelude.{slice_index, slice_set}
use Rattle.std.specs.List.{remove}
use Rattle.std.proofs.lemmas.Bool.{cases_eq, ne_eqb}
use Rattle.std.proofs.lemmas.List.{get_or-set_same, get_or-set_other, get_or-replicate, length-replicate, length-set}
use Rattle.std.proofs.lemmas.List.Sums.{sum_by-append, sum_by-cons, sum_by-remove}
use Rattle.tl_copies.specs.declared.held.Held.{Held}
use Rattle.tl_copies.specs.declared.table.Key.{Key}
use Rattle.tl_copies.specs.Entries.{found}
use Rattle.tl_copies.specs.Slots.{entries_of, AreCountedByHint}
use Rattle.tl_copies.proofs.SlotLaws.{IsKeyAt}

-- one for a key of a block that has a hint
abbrev has_hint : ℕ → Key → ℕ
has_hint hint key = if key.block % 64 == hint then 1 else 0

-- how many keys are of such blocks
abbrev hinted : ℕ → List Key → ℕ
hinted hint keys = count_by (λ (key : Key). key.block % 64 == hint) keys

-- a block's own hint counts
own-hint : (k : Key) (hint : ℕ) → k.block % 64 ≡ hint → has_hint hint k ≡ 1
own-hint k hint same = rw (eq-eqb (k.block % 64) hint same) refl

-- another does not
other-hint : (k : Key) (hint : ℕ) → k.block % 64 ≢ hint → has_hint hint k ≡ 0
other-hint k hint apart = rw (ne_eqb (k.block % 64) hint apart) refl

-- at most one
one-most : (test : Bool) → (if test then 1 else 0) ≤ 1
one-most true = omega arith
one-most false = omega arith

-- no more than there are keys
hinted-few : (hint : ℕ) (keys : List Key) → hinted hint keys ≤ length keys
hinted-few hint [] = omega arith
hinted-few hint (k ∷ rest) =
    omega (arith, one-most (k.block % 64 == hint), hinted-few hint rest, sum_by-cons (λ key. has_hint hint key) k rest)

-- where no key has a block's hint, the block has no entry
none-hinted : (slots : List Held) (block : ℕ) (keys : List Key) → hinted (block % 64) keys ≡ 0 → found block (entries_of slots keys) ≡ None
none-hinted slots block [] none = refl
none-hinted slots block (k ∷ rest) none =
    let more = sum_by-cons (λ key. has_hint (block % 64) key) k rest in
    elim (cases_eq k.block block) [
      | inl same ↦ absurd (omega (arith, none, more, own-hint k (block % 64) (ap (λ n. n % 64) same)))
      | inr apart ↦ rw (ne_eqb k.block block apart) (none-hinted slots block rest (omega (arith, none, more)))
    ]

-- Keys with their numbers.
module _ {keys : List Key} {numbers : List ℕ} (counts : AreCountedByHint keys numbers) where
  -- where a block's number is 0, it has no entry
  pub none-counted : (slots : List Held) (block : ℕ) → slice_index numbers (block % 64) ≡ 0 → found block (entries_of slots keys) ≡ None
  none-counted slots block none =
      let few : block % 64 < 64 = omega arith in
      none-hinted slots block keys (sym (counts.numbered (block % 64) few) ∙ none)

  -- no number is above that of the keys
  pub counted-few : (block : ℕ) → slice_index numbers (block % 64) ≤ length keys
  counted-few block =
      let few : block % 64 < 64 = omega arith in
      omega (arith, counts.numbered (block % 64) few, hinted-few (block % 64) keys)

  -- a key counts
  pub counted-some : (place : ℕ) (k : Key) → IsKeyAt keys place k → 1 ≤ slice_index numbers (k.block % 64)
  counted-some place k at =
      let few : k.block % 64 < 64 = omega arith in
      omega (
        arith,
        counts.numbered (k.block % 64) few,
        sum_by-remove (λ key. has_hint (k.block % 64) key) keys place k at.inside,
        ap (λ key. has_hint (k.block % 64) key) at.key,
        own-hint k (k.block % 64) refl,
      )

  -- one number changes as its keys do
  changed : (later : List Key) (block number : ℕ) → number ≡ hinted (block % 64) later
      → ((hint : ℕ) → block % 64 ≢ hint → hinted hint later ≡ hinted hint keys)
      → AreCountedByHint later (slice_set numbers (block % 64) number)
  changed later block number here others =
      let few : block % 64 < 64 = omega arith in
      record {
        all = length-set numbers (block % 64) number ∙ counts.all;
        numbered = λ hint small.
            elim (cases_eq (block % 64) hint) [
              | inl same ↦
                  ap (λ h. slice_index (slice_set numbers (block % 64) number) h) (sym same)
                  ∙ get_or-set_same numbers (block % 64) number 0 (omega (arith, counts.all, few)) ∙ here ∙ ap (λ h. hinted h later) same
              | inr apart ↦
                  get_or-set_other numbers (block % 64) hint number 0 (λ same. apart (sym same)) ∙ counts.numbered hint small ∙ sym (others hint apart)
            ];
      }

  -- an entry added
  pub counted-added : (k : Key) → AreCountedByHint (keys ++ k ∷ []) (slice_set numbers (k.block % 64) (slice_index numbers (k.block % 64) + 1))
  counted-added k =
      let few : k.block % 64 < 64 = omega arith in
      let more : (hint : ℕ) → hinted hint (keys ++ k ∷ []) ≡ hinted hint keys + has_hint hint k =
      λ hint. omega (arith, sum_by-append (λ key. has_hint hint key) keys (k ∷ []), sum_by-cons (λ key. has_hint hint key) k []) in
      changed (keys ++ k ∷ []) k.block (slice_index numbers (k.block % 64) + 1)
      (omega (arith, more (k.block % 64), own-hint k (k.block % 64) refl, counts.numbered (k.block % 64) few))
      (λ hint apart. omega (arith, more hint, other-hint k hint apart))

  -- an entry taken out
  pub counted-removed : (place : ℕ) (k : Key) → IsKeyAt keys place k
      → AreCountedByHint (remove keys place) (slice_set numbers (k.block % 64) (slice_index numbers (k.block % 64) - 1))
  counted-removed place k at =
      let few : k.block % 64 < 64 = omega arith in
      let less : (hint : ℕ) → hinted hint (remove keys place) + has_hint hint k ≡ hinted hint keys =
      λ hint. omega (arith, sum_by-remove (λ key. has_hint hint key) keys place k at.inside, ap (λ key. has_hint hint key) at.key) in
      changed (remove keys place) k.block (slice_index numbers (k.block % 64) - 1)
      (omega (arith, less (k.block % 64), own-hint k (k.block % 64) refl, counts.numbered (k.block % 64) few))
      (λ hint apart. omega (arith, less hint, other-hint k hint apart))

  -- an entry put last
  pub counted-renewed : (place : ℕ) (k : Key) → IsKeyAt keys place k → AreCountedByHint (remove keys place ++ k ∷ []) numbers
  counted-renewed place k at =
      record {
        all = counts.all;
        numbered = λ hint small. omega (
          arith,
          counts.numbered hint small,
          sum_by-append (λ key. has_hint hint key) (remove keys place) (k ∷ []),
          sum_by-cons (λ key. has_hint hint key) k [],
          sum_by-remove (λ key. has_hint hint key) keys place k at.inside,
          ap (λ key. has_hint hint key) at.key,
        );
      }

-- no key
pub counted-empty : AreCountedByHint [] (replicate 64 0)
counted-empty =
    record { all = length-replicate {A = ℕ} 64 0; numbered = λ hint small. get_or-replicate 64 hint 0 0 small }
