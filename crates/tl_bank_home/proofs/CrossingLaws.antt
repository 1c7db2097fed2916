-- What passes of each block, after something comes to pass or is taken.
use Rattle.std.proofs.Common.{◌≡◌, ◌≢◌, ℕ, zero, suc, ◌+◌, ◌<◌, ◌==◌, Bool, true, false, List, [], ◌∷◌, ◌++◌, length, slice_index_or, slice_set, if◌then◌else◌, refl, sym, ◌∙◌, ap, arith, eq-eqb, inl, inr}
use Rattle.std.specs.Prelude.{remove, ◌≤◌, ◌⊎◌}
use Rattle.std.proofs.lemmas.Bool.{cases_eq, ne_eqb}
use Rattle.tl_protocol.specs.declared.home.Outward.{Outward}
use Rattle.tl_protocol.specs.declared.home.Outward.TheVariants.{Quiet}
use Rattle.tl_bank_home.specs.declared.crossings.Crossing.{Crossing}
use Rattle.tl_bank_home.specs.Crossings.{outward_of, AreApart, without_crossing, IsPlace}

-- a block of which nothing passes is not the first's, and nothing of it passes in the rest
quiet_first : (block : ℕ) (e : Crossing) (rest : List Crossing) → AreApart (e ∷ rest) → outward_of block (e ∷ rest) ≡ Quiet
    → (e.block ≢ block) × (outward_of block rest ≡ Quiet)
quiet_first block e rest apart quiet =
    elim (cases_eq e.block block) [
      | inl same ↦ absurd (apart.0 (rw (eq-eqb e.block block same) at quiet))
      | inr other ↦ (other, rw (ne_eqb e.block block other) at quiet)
    ]

-- something comes to pass
pub outward_of-append : (x : Crossing) (list : List Crossing) → AreApart list → outward_of x.block list ≡ Quiet → (b : ℕ)
    → outward_of b (list ++ x ∷ []) ≡ (if b == x.block then x.outward else outward_of b list)
outward_of-append x [] apart quiet b =
    elim (cases_eq b x.block) [
      | inl same ↦ rw (eq-eqb b x.block same, eq-eqb x.block b (sym same)) refl
      | inr other ↦ rw (ne_eqb b x.block other, ne_eqb x.block b (λ same. other (sym same))) refl
    ]
outward_of-append x (e ∷ rest) apart quiet b =
    let first = quiet_first x.block e rest apart quiet in
    let later = outward_of-append x rest apart.2 first.1 b in
    elim (cases_eq e.block b) [
      | inl same ↦
          let other : (b == x.block) ≡ false = ne_eqb b x.block (λ is. first.0 (same ∙ is)) in
          rw (eq-eqb e.block b same, other) refl
      | inr other ↦ rw (ne_eqb e.block b other) later
    ]

-- the blocks stay apart where something comes to pass of one of which nothing passed
pub AreApart-append : (x : Crossing) (list : List Crossing) → AreApart list → outward_of x.block list ≡ Quiet → x.outward ≢ Quiet
    → AreApart (list ++ x ∷ [])
AreApart-append x [] apart quiet passes = (passes, refl, tt)
AreApart-append x (e ∷ rest) apart quiet passes =
    let first = quiet_first x.block e rest apart quiet in (
      apart.0,
      outward_of-append x rest apart.2 first.1 e.block ∙ ap (λ there. if there then x.outward else outward_of e.block rest) (ne_eqb e.block x.block first.0)
          ∙ apart.1,
      AreApart-append x rest apart.2 first.1 passes,
    )

-- what passes of a block is taken
pub outward_of-without : (block : ℕ) (list : List Crossing) → AreApart list → (b : ℕ)
    → outward_of b (without_crossing block list) ≡ (if b == block then Quiet else outward_of b list)
outward_of-without block [] apart b = either (b == block)
  where
    either : (t : Bool) → Quiet ≡ (if t then Quiet else Quiet)
    either true = refl
    either false = refl
outward_of-without block (e ∷ rest) apart b =
    elim (cases_eq e.block block) [
      | inl same ↦ rw (eq-eqb e.block block same) (elim (cases_eq b block) [
        | inl is ↦ rw (eq-eqb b block is, is, ← same) apart.1
        | inr other ↦ rw (ne_eqb b block other, ne_eqb e.block b (λ at. other (sym at ∙ same))) refl
      ])
      | inr apart_there ↦
          let later = outward_of-without block rest apart.2 b in
          rw (ne_eqb e.block block apart_there) (elim (cases_eq e.block b) [
            | inl is ↦ rw (eq-eqb e.block b is, ne_eqb b block (λ at. apart_there (is ∙ at))) refl
            | inr other ↦ rw (ne_eqb e.block b other) later
          ])
    ]

-- the blocks stay apart where what passes of one is taken
pub AreApart-without : (block : ℕ) (list : List Crossing) → AreApart list → AreApart (without_crossing block list)
AreApart-without block [] apart = tt
AreApart-without block (e ∷ rest) apart =
    elim (cases_eq e.block block) [
      | inl same ↦ rw (eq-eqb e.block block same) apart.2
      | inr other ↦
          rw (ne_eqb e.block block other) (
            apart.0,
            outward_of-without block rest apart.2 e.block ∙ ap (λ there. if there then Quiet else outward_of e.block rest) (ne_eqb e.block block other)
                ∙ apart.1,
            AreApart-without block rest apart.2,
          )
    ]

-- where nothing passed of it nothing is taken
pub outward_of-quiet : (block : ℕ) (list : List Crossing) → outward_of block list ≡ Quiet → (b : ℕ)
    → outward_of b list ≡ (if b == block then Quiet else outward_of b list)
outward_of-quiet block list quiet b =
    elim (cases_eq b block) [
      | inl same ↦ rw (eq-eqb b block same, same) quiet
      | inr other ↦ rw (ne_eqb b block other) refl
    ]

-- of one block fewer something passes, where anything did
pub length-without : (block : ℕ) (list : List Crossing) → outward_of block list ≢ Quiet → length (without_crossing block list) + 1 ≡ length list
length-without block [] passes = absurd (passes refl)
length-without block (e ∷ rest) passes =
    elim (cases_eq e.block block) [
      | inl same ↦ rw (eq-eqb e.block block same) (omega arith)
      | inr other ↦
          let later = length-without block rest (rw (ne_eqb e.block block other) at passes) in
          rw (ne_eqb e.block block other) (omega (arith, later))
    ]

-- ## Places

-- a place past the first is one less in the rest
tail_place : (block : ℕ) (e : Crossing) (rest : List Crossing) (i : ℕ) → IsPlace block (e ∷ rest) (suc i) → IsPlace block rest i
tail_place block e rest i p = record {
  inside = omega (arith, p.inside);
  here = p.here;
  first = λ k d h. p.first (suc k) d (omega arith);
}

-- where the place is past the first, the first is another block's
head_differs : (block : ℕ) (e : Crossing) (rest : List Crossing) (i : ℕ) → IsPlace block (e ∷ rest) (suc i) → (e.block == block) ≡ false
head_differs block e rest i p = ne_eqb e.block block (p.first 0 e (omega arith))

-- what stands at the place is what passes
pub outward_of-place : (block : ℕ) (list : List Crossing) (place : ℕ) (d : Crossing) → IsPlace block list place
    → outward_of block list ≡ (slice_index_or list place d).outward
outward_of-place block [] place d p = absurd (omega (arith, p.inside))
outward_of-place block (e ∷ rest) zero d p = rw (eq-eqb e.block block (p.here d)) refl
outward_of-place block (e ∷ rest) (suc i) d p = rw (head_differs block e rest i p) (outward_of-place block rest i d (tail_place block e rest i p))

-- and something does
pub passes-at : (block : ℕ) (list : List Crossing) (place : ℕ) → IsPlace block list place → AreApart list → outward_of block list ≢ Quiet
passes-at block [] place p apart = absurd (omega (arith, p.inside))
passes-at block (e ∷ rest) zero p apart = rw (eq-eqb e.block block (p.here e)) apart.0
passes-at block (e ∷ rest) (suc i) p apart = rw (head_differs block e rest i p) (passes-at block rest i (tail_place block e rest i p) apart.2)

-- taking it out
pub remove-place : (block : ℕ) (list : List Crossing) (place : ℕ) → IsPlace block list place → remove list place ≡ without_crossing block list
remove-place block [] place p = absurd (omega (arith, p.inside))
remove-place block (e ∷ rest) zero p = rw (eq-eqb e.block block (p.here e)) refl
remove-place block (e ∷ rest) (suc i) p =
    rw (head_differs block e rest i p) (ap (λ (list : List Crossing). e ∷ list) (remove-place block rest i (tail_place block e rest i p)))

-- the same, as the code has it
pub AreApart-removed : (block : ℕ) (list : List Crossing) (place : ℕ) → IsPlace block list place → AreApart list → AreApart (remove list place)
AreApart-removed block list place p apart = rw (remove-place block list place p) (AreApart-without block list apart)

-- something else in its place
pub outward_of-changed : (block : ℕ) (o : Outward) (list : List Crossing) (place : ℕ) → IsPlace block list place → (b : ℕ)
    → outward_of b (slice_set list place (record { block = block; outward = o })) ≡ (if b == block then o else outward_of b list)
outward_of-changed block o [] place p b = absurd (omega (arith, p.inside))
outward_of-changed block o (e ∷ rest) zero p b =
    elim (cases_eq b block) [
      | inl same ↦ rw (eq-eqb b block same, eq-eqb block b (sym same)) refl
      | inr other ↦
          rw (ne_eqb b block other, ne_eqb block b (λ same. other (sym same)), ne_eqb e.block b (λ same. other (sym same ∙ p.here e)))
          refl
    ]
outward_of-changed block o (e ∷ rest) (suc i) p b =
    elim (cases_eq e.block b) [
      | inl same ↦ rw (eq-eqb e.block b same, ne_eqb b block (λ is. p.first 0 e (omega arith) (same ∙ is))) refl
      | inr other ↦ rw (ne_eqb e.block b other) (outward_of-changed block o rest i (tail_place block e rest i p) b)
    ]

-- the blocks stay apart
pub AreApart-changed : (block : ℕ) (o : Outward) (list : List Crossing) (place : ℕ) → IsPlace block list place → AreApart list → o ≢ Quiet
    → AreApart (slice_set list place (record { block = block; outward = o }))
AreApart-changed block o [] place p apart passes = absurd (omega (arith, p.inside))
AreApart-changed block o (e ∷ rest) zero p apart passes = (passes, rw (← p.here e) apart.1, apart.2)
AreApart-changed block o (e ∷ rest) (suc i) p apart passes =
    let next = tail_place block e rest i p in (
      apart.0,
      outward_of-changed block o rest i next e.block
          ∙ ap (λ there. if there then o else outward_of e.block rest) (head_differs block e rest i p) ∙ apart.1,
      AreApart-changed block o rest i next apart.2 passes,
    )

-- ## Their number

-- of a list whose head is another block's
later_passes : (b : ℕ) (e : Crossing) (rest : List Crossing) → AreApart (e ∷ rest) → outward_of b rest ≢ Quiet → outward_of b (e ∷ rest) ≢ Quiet
later_passes b e rest apart passes quiet = passes (quiet_first b e rest apart quiet).1

-- a block has this holder, or none has
held_by : (holder : ℕ → ℕ) (n : ℕ) (list : List Crossing) → AreApart list
    → ((b : ℕ) × (outward_of b list ≢ Quiet) × (holder b ≡ n)) ⊎ ((b : ℕ) → outward_of b list ≢ Quiet → holder b ≢ n)
held_by holder n [] apart = inr (λ b passes is. passes refl)
held_by holder n (e ∷ rest) apart =
    elim (cases_eq (holder e.block) n) [
      | inl same ↦
          inl (e.block, (λ quiet. (quiet_first e.block e rest apart quiet).0 refl), same)
      | inr other ↦ elim (held_by holder n rest apart.2) [
        | inl found ↦ inl (found.0, later_passes found.0 e rest apart found.1, found.2)
        | inr none ↦ inr (λ b passes is. elim (cases_eq e.block b) [
          | inl same ↦ other (ap holder same ∙ is)
          | inr differ ↦ none b (rw (ne_eqb e.block b differ) at passes) is
        ])
      ]
    ]

-- there are no more than the holders of which each has its own
pub length-held : (holder : ℕ → ℕ) (n : ℕ) (list : List Crossing) → AreApart list
    → ((b : ℕ) → outward_of b list ≢ Quiet → holder b < n)
    → ((a b : ℕ) → outward_of a list ≢ Quiet → outward_of b list ≢ Quiet → holder a ≡ holder b → a ≡ b) → length list ≤ n
length-held holder zero [] apart inside own = omega arith
length-held holder zero (e ∷ rest) apart inside own =
    let below = inside e.block (λ quiet. (quiet_first e.block e rest apart quiet).0 refl) in
    absurd (omega arith)
length-held holder (suc n) list apart inside own =
    elim (held_by holder n list apart) [
      | inl found ↦
          let less = length-without found.0 list found.1 in
          let there : (b : ℕ) → outward_of b (without_crossing found.0 list) ≢ Quiet → (b ≢ found.0) × (outward_of b list ≢ Quiet) =
          λ b passes. remaining found.0 list apart b passes in
          let rest = length-held holder n (without_crossing found.0 list) (AreApart-without found.0 list apart)
          (λ b passes. below b n (inside b (there b passes).1) (λ is. (there b passes).0 (own b found.0 (there b passes).1 found.1 (is ∙ sym found.2))))
          (λ a b first second. own a b (there a first).1 (there b second).1) in
          omega (arith, less, rest)
      | inr none ↦
          let rest = length-held holder n list apart (λ b passes. below b n (inside b passes) (none b passes)) own in
          omega (arith, rest)
    ]
  where
    below : (b n : ℕ) → holder b < suc n → holder b ≢ n → holder b < n
    below b n less other = grind (arith, other)

    remaining : (block : ℕ) (list : List Crossing) → AreApart list → (b : ℕ) → outward_of b (without_crossing block list) ≢ Quiet
        → (b ≢ block) × (outward_of b list ≢ Quiet)
    remaining block list apart b passes =
        elim (cases_eq b block) [
          | inl same ↦
              absurd (passes (outward_of-without block list apart b ∙ ap (λ there. if there then Quiet else outward_of b list) (eq-eqb b block same)))
          | inr other ↦
              (other, λ quiet. passes (outward_of-without block list apart b ∙ ap (λ there. if there then Quiet else outward_of b list) (ne_eqb b block other) ∙ quiet))
        ]

pub ruleset puts = (outward_of-append, AreApart-append)
