-- The place of a block's entry.
use Rattle.std.proofs.Common.{◌≡◌, ◌≢◌, ℕ, zero, suc, ◌<◌, ◌==◌, Bool, true, false, List, [], ◌∷◌, ◌++◌, length, Some, None, if◌then◌else◌, slice_index_or, slice_set, refl, sym, ◌∙◌, ap, subst, arith, eq-eqb}
use Rattle.std.specs.Prelude.{remove}
use Rattle.std.proofs.lemmas.Bool.{ne_eqb}
use Rattle.tl_copies.specs.declared.held.Held.{Held}
use Rattle.tl_copies.specs.Held.{is_renewed_entry, is_renewed}
use Rattle.tl_copies.specs.Entries.{Entry, found, without_entry, replaced, kept, IsPlace, AreApart}
use Rattle.tl_copies.proofs.EntryLaws.{entry}

-- a place past the first is one less in the rest
tail_place : (block : ℕ) (e : Entry) (rest : List Entry) (i : ℕ) → IsPlace block (e ∷ rest) (suc i) → IsPlace block rest i
tail_place block e rest i p = record {
  inside = omega (arith, p.inside);
  here = p.here;
  first = λ k d h. p.first (suc k) d (omega arith);
}

-- where the place is past the first, the first is another block's
head_differs : (block : ℕ) (e : Entry) (rest : List Entry) (i : ℕ) → IsPlace block (e ∷ rest) (suc i) → (e.block == block) ≡ false
head_differs block e rest i p = ne_eqb e.block block (p.first 0 e (omega arith))

-- what stands at the place is what the table has of the block
pub found-place : (block : ℕ) (es : List Entry) (place : ℕ) (d : Entry) → IsPlace block es place
    → found block es ≡ Some (slice_index_or es place d).held
found-place block [] place d p = absurd (omega (arith, p.inside))
found-place block (e ∷ rest) zero d p =
    let is : (e.block == block) ≡ true = eq-eqb e.block block (p.here d) in
    rw is refl
found-place block (e ∷ rest) (suc i) d p = rw (head_differs block e rest i p) (found-place block rest i d (tail_place block e rest i p))

-- where no block stands twice, a place of an entry of the block is that of the first
pub place-once : (n block : ℕ) (es : List Entry) (place : ℕ) (x : Entry) → AreApart n es → place < length es
    → (slice_index_or es place x).block ≡ block → IsPlace block es place
place-once n block [] place x a l h = absurd (omega arith)
place-once n block (e ∷ rest) zero x a l h = record { inside = l; here = λ d. h; first = λ k d less. absurd (omega (arith, less)) }
place-once n block (e ∷ rest) (suc i) x a l h =
    let later : IsPlace block rest i = place-once n block rest i x a.2 (omega arith) h in
    let other : e.block ≢ block = λ same.
    let none : found block rest ≡ None = subst (λ b. found b rest ≡ None) same a.1 in
    let some = found-place block rest i x later in
    cc in
    record {
      inside = l;
      here = later.here;
      first = λ k. elim k as (λ k. (d : Entry) → k < suc i → (slice_index_or (e ∷ rest) k d).block ≢ block) [
        | zero ↦ λ d less. other
        | suc j ↦ λ d less. later.first j d (omega (arith, less))
      ];
    }

-- taking out the entry at the place
pub remove-place : (block : ℕ) (es : List Entry) (place : ℕ) → IsPlace block es place → remove es place ≡ without_entry block es
remove-place block [] place p = absurd (omega (arith, p.inside))
remove-place block (e ∷ rest) zero p =
    let is : (e.block == block) ≡ true = eq-eqb e.block block (p.here e) in
    rw is refl
remove-place block (e ∷ rest) (suc i) p =
    rw (head_differs block e rest i p) (ap (λ (es : List Entry). e ∷ es) (remove-place block rest i (tail_place block e rest i p)))

-- changing the entry at the place
pub set-place : (block : ℕ) (held : Held) (es : List Entry) (place : ℕ) → IsPlace block es place
    → slice_set es place (entry block held) ≡ replaced block held es
set-place block held [] place p = absurd (omega (arith, p.inside))
set-place block held (e ∷ rest) zero p =
    let is : (e.block == block) ≡ true = eq-eqb e.block block (p.here e) in
    rw is refl
set-place block held (e ∷ rest) (suc i) p =
    rw (head_differs block e rest i p) (ap (λ (es : List Entry). e ∷ es) (set-place block held rest i (tail_place block e rest i p)))

-- a block that is not there is not taken out
pub without-none : (block : ℕ) (es : List Entry) → found block es ≡ None → without_entry block es ≡ es
without-none block [] n = refl
without-none block (e ∷ rest) n = by_test (e.block == block) n (without-none block rest)
  where
    by_test : (here : Bool) → (if here then Some e.held else found block rest) ≡ None
        → (found block rest ≡ None → without_entry block rest ≡ rest)
        → (if here then rest else e ∷ without_entry block rest) ≡ e ∷ rest
    by_test true h ih = cc
    by_test false h ih = ap (λ (es : List Entry). e ∷ es) (ih h)

-- an entry changed and then taken out is taken out
pub remove-set : (es : List Entry) (place : ℕ) (e : Entry) → place < length es → remove (slice_set es place e) place ≡ remove es place
remove-set [] place e h = absurd (omega arith)
remove-set (x ∷ rest) zero e h = refl
remove-set (x ∷ rest) (suc i) e h = ap (λ (es : List Entry). x ∷ es) (remove-set rest i e (omega arith))

-- ## What is kept, as the code does it

-- a new entry goes last
pub kept-new : (block : ℕ) (held : Held) (es : List Entry) → found block es ≡ None
    → kept block held es ≡ es ++ entry block held ∷ []
kept-new block held es n = rw n (ap (λ (zs : List Entry). zs ++ entry block held ∷ []) (without-none block es n))

-- whether a block's Grant came is told by the entry at its place
granted_is : (block : ℕ) (held : Held) (es : List Entry) (place : ℕ) (old : Entry) (renewed : Bool) → IsPlace block es place
    → old ≡ slice_index_or es place old → is_renewed old.held held ≡ renewed → is_renewed_entry (found block es) held ≡ renewed
granted_is block held es place old renewed p o r =
    let is : found block es ≡ Some old.held = found-place block es place old p ∙ ap (λ (e : Entry). Some e.held) (sym o) in
    rw is r

-- so does an entry whose Grant came
pub kept-granted : (block : ℕ) (held : Held) (es : List Entry) (place : ℕ) (old : Entry) → IsPlace block es place
    → old ≡ slice_index_or es place old → is_renewed old.held held ≡ true
    → kept block held es ≡ remove es place ++ entry block held ∷ []
kept-granted block held es place old p o r =
    rw (granted_is block held es place old true p o r) (ap (λ (zs : List Entry). zs ++ entry block held ∷ []) (sym (remove-place block es place p)))

-- any other stays in its place
pub kept-same : (block : ℕ) (held : Held) (es : List Entry) (place : ℕ) (old : Entry) → IsPlace block es place
    → old ≡ slice_index_or es place old → is_renewed old.held held ≡ false
    → kept block held es ≡ slice_set es place (entry block held)
kept-same block held es place old p o r =
    rw (granted_is block held es place old false p o r) (sym (set-place block held es place p))
