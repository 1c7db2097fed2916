-- What keys and slots show, and that they stay sound, as an entry is written, put last, added or taken out.
use Rattle.std.proofs.Common.{◌≡◌, ◌≢◌, ℕ, zero, suc, ◌+◌, ◌<◌, ◌≤◌, ◌==◌, Bool, true, false, List, [], ◌∷◌, ◌++◌, length, map, if◌then◌else◌, slice_index_or, slice_set, drop, refl, sym, ◌∙◌, None, ap, subst, arith, eq-eqb, length-append, count_by, inl, inr}
use Rattle.std.specs.List.{remove, refill}
use Rattle.std.proofs.lemmas.Bool.{cases_eq, cases_lt, ne_eqb}
use Rattle.std.proofs.Math.Seq.{get_or-append_seam}
use Rattle.std.proofs.lemmas.List.{take_at, get_or_default, get_or-map, get_or-set_same, get_or-set_other, get_or_append_left, length-map, length-set, map-append}
use Rattle.std.proofs.lemmas.List.Edits.{length-remove}
use Rattle.std.proofs.lemmas.List.Sums.{sum_by-append, sum_by-cons, sum_by-remove, sum_by-set}
use Rattle.tl_types.specs.declared.limits.TheConstants.{COPIES}
use Rattle.tl_copies.specs.declared.held.Held.{Held}
use Rattle.tl_copies.specs.declared.table.Key.{Key}
use Rattle.tl_copies.specs.Held.{is_copy}
use Rattle.tl_copies.specs.Entries.{Entry, found, IsPlace}
use Rattle.tl_copies.specs.Slots.{blank, entry_at, entries_of, uses, IsSound}
use Rattle.tl_copies.proofs.CountLaws.{one_if}

-- one for a key that has a slot
abbrev pub marks : ℕ → Key → ℕ
marks slot key = if key.slot == slot then 1 else 0

-- one for a free slot that is a slot
abbrev pub marks_free : ℕ → ℕ → ℕ
marks_free slot x = if x == slot then 1 else 0

-- how many keys have a slot
abbrev pub keyed : ℕ → List Key → ℕ
keyed slot keys = count_by (λ (key : Key). key.slot == slot) keys

-- one for an entry that is a copy
abbrev pub is_one : Entry → ℕ
is_one e = if is_copy e.held then 1 else 0

-- how many entries are copies
abbrev pub copies_in : List Entry → ℕ
copies_in es = count_by (λ (e : Entry). is_copy e.held) es

-- an element taken out is taken out of what each is mapped to
pub map-remove : {X Y : Type 0} (f : X → Y) (xs : List X) (i : ℕ) → i < length xs → map f (remove xs i) ≡ remove (map f xs) i
map-remove f [] i h = absurd (omega arith)
map-remove f (x ∷ rest) zero h = refl
map-remove f (x ∷ rest) (suc i) h = ap (λ ys. f x ∷ ys) (map-remove f rest i (omega arith))

-- what a write through a slice leaves
pub refill-set : {X : Type 0} (items shown : List X) (i j : ℕ) (x : X) → shown ≡ items → i ≡ j
    → refill (length items) items (slice_set shown i x) ≡ slice_set items j x
refill-set items shown i j x v e =
    rw (v, e) (take_at (slice_set items j x) (drop (length (slice_set items j x)) items) (length items) (length-set items j x))

-- ## Who has a slot

-- the first key counts for its own slot
keyed-first : (slot : ℕ) (k : Key) (rest : List Key) → k.slot ≡ slot → keyed slot (k ∷ rest) ≡ 1 + keyed slot rest
keyed-first slot k rest e =
    let one : marks slot k ≡ 1 = rw (eq-eqb k.slot slot e) refl in
    omega (arith, one, sum_by-cons (λ key. marks slot key) k rest)

-- the later keys that have a slot are no more than all that have it
keyed-rest : (slot : ℕ) (k : Key) (rest : List Key) → keyed slot rest ≤ keyed slot (k ∷ rest)
keyed-rest slot k rest = omega (arith, sum_by-cons (λ key. marks slot key) k rest)

-- a key at a place has its slot
keyed-some : (keys : List Key) (place : ℕ) (k : Key) → place < length keys → k ≡ slice_index_or keys place k → 1 ≤ keyed k.slot keys
keyed-some [] place k l e = absurd (omega arith)
keyed-some (x ∷ rest) zero k l e = omega (arith, keyed-first k.slot x rest (ap (λ (y : Key). y.slot) (sym e)))
keyed-some (x ∷ rest) (suc i) k l e = omega (arith, keyed-some rest i k (omega arith) e, keyed-rest k.slot x rest)

-- a key of another slot does not count
unmarked : (slot : ℕ) (k : Key) → (k.slot ≡ slot → ⊥) → marks slot k ≡ 0
unmarked slot k other = rw (ne_eqb k.slot slot other) refl

-- at most one
one_or_none : (b : Bool) → (if b then 1 else 0) ≤ 1
one_or_none true = omega arith
one_or_none false = omega arith

-- ## What keys show after a slot changes

-- a slot that no key has shows nowhere
pub entries-other : (slots : List Held) (slot : ℕ) (held : Held) (keys : List Key) → keyed slot keys ≡ 0
    → entries_of (slice_set slots slot held) keys ≡ entries_of slots keys
entries-other slots slot held [] n = refl
entries-other slots slot held (k ∷ rest) n =
    let other : k.slot ≢ slot = λ e. omega (arith, n, keyed-first slot k rest e) in
    let later : keyed slot rest ≡ 0 = omega (arith, n, keyed-rest slot k rest) in
    rw (get_or-set_other slots slot k.slot held blank other, entries-other slots slot held rest later) refl

-- a slot that one key alone has shows at that key's place
pub entries-set : (slots : List Held) (held : Held) (keys : List Key) (place : ℕ) (k : Key) → place < length keys
    → k ≡ slice_index_or keys place k → keyed k.slot keys ≤ 1 → k.slot < length slots
    → entries_of (slice_set slots k.slot held) keys ≡ slice_set (entries_of slots keys) place (record { block = k.block; held = held })
entries-set slots held [] place k l e once inside = absurd (omega arith)
entries-set slots held (x ∷ rest) zero k l e once inside =
    let later : keyed k.slot rest ≡ 0 = omega (arith, once, keyed-first k.slot x rest (ap (λ (y : Key). y.slot) (sym e))) in
    let first : entry_at (slice_set slots k.slot held) x ≡ record { block = k.block; held = held } =
    subst (λ (y : Key). entry_at (slice_set slots k.slot held) y ≡ record { block = k.block; held = held }) e
    (rw (get_or-set_same slots k.slot held blank inside) refl) in
    rw (first, entries-other slots k.slot held rest later) refl
entries-set slots held (x ∷ rest) (suc i) k l e once inside =
    let there : 1 ≤ keyed k.slot rest = keyed-some rest i k (omega arith) e in
    let other : x.slot ≢ k.slot = λ h. omega (arith, once, there, keyed-first k.slot x rest h) in
    let later : keyed k.slot rest ≤ 1 = omega (arith, once, keyed-rest k.slot x rest) in
    rw (get_or-set_other slots k.slot x.slot held blank other)
    (ap (λ (es : List Entry). entry_at slots x ∷ es) (entries-set slots held rest i k (omega arith) e later inside))

-- a slot that is new shows at no key
pub entries-more : (slots : List Held) (held : Held) (keys : List Key) → ((slot : ℕ) → length slots ≤ slot → keyed slot keys ≡ 0)
    → entries_of (slots ++ held ∷ []) keys ≡ entries_of slots keys
entries-more slots held [] inside = refl
entries-more slots held (k ∷ rest) inside =
    let here : k.slot < length slots =
    elim (cases_lt k.slot (length slots)) [
      | inl less ↦ less
      | inr beyond ↦ absurd (omega (arith, inside k.slot beyond, keyed-first k.slot k rest refl))
    ] in
    rw (
      get_or_append_left slots (held ∷ []) blank k.slot here,
      entries-more slots held rest (λ slot h. omega (arith, inside slot h, keyed-rest slot k rest)),
    ) refl

-- a key stands at a place
pub record IsKeyAt (keys : List Key) (place : ℕ) (k : Key) : Type 0 where
  pub inside : place < length keys
  pub key : k ≡ slice_index_or keys place k

-- ## A sound table

module _ {keys : List Key} {slots : List Held} {free : List ℕ} {copies : ℕ} (s : IsSound keys slots free copies) where
  -- the slot of a key is there
  pub slot-inside : (place : ℕ) (k : Key) → IsKeyAt keys place k → k.slot < length slots
  slot-inside place k at =
      elim (cases_lt k.slot (length slots)) [
        | inl less ↦ less
        | inr beyond ↦ absurd (omega (arith, s.inside k.slot beyond, keyed-some keys place k at.inside at.key))
      ]

  -- the entry at a place is that of its key
  pub entry-here : (place : ℕ) (k : Key) (d : Entry) → IsKeyAt keys place k
      → slice_index_or (entries_of slots keys) place d ≡ entry_at slots k
  entry-here place k d at =
      get_or-map (λ (key : Key). entry_at slots key) keys place k d at.inside ∙ ap (λ (key : Key). entry_at slots key) (sym at.key)

  -- an entry written
  pub entries-written : (place : ℕ) (k : Key) (held : Held) → IsKeyAt keys place k
      → entries_of (slice_set slots k.slot held) keys ≡ slice_set (entries_of slots keys) place (record { block = k.block; held = held })
  entries-written place k held at =
      entries-set slots held keys place k at.inside at.key (omega (arith, s.once k.slot)) (slot-inside place k at)

  -- what it changes in the number of copies
  pub copies-written : (place : ℕ) (k : Key) (held : Held) → IsKeyAt keys place k
      → copies_in (entries_of (slice_set slots k.slot held) keys) + one_if (is_copy (slice_index_or slots k.slot blank))
      ≡ copies + one_if (is_copy held)
  copies-written place k held at =
      let new : Entry = record { block = k.block; held = held } in
      let few : place < length (entries_of slots keys) = omega (arith, at.inside, length-map keys (λ (key : Key). entry_at slots key)) in
      let change : copies_in (slice_set (entries_of slots keys) place new) + is_one (slice_index_or (entries_of slots keys) place new)
      ≡ copies_in (entries_of slots keys) + is_one new =
      sum_by-set (λ x. is_one x) (entries_of slots keys) place new new few in
      let old : is_one (slice_index_or (entries_of slots keys) place new) ≡ is_one (entry_at slots k) =
      ap (λ x. is_one x) (entry-here place k new at) in
      rw (entries-written place k held at) (omega (arith, change, old, s.counted))

  -- the table stays sound
  pub sound-written : (place : ℕ) (k : Key) (held : Held) (copies_then : ℕ) → IsKeyAt keys place k
      → copies_then + one_if (is_copy (slice_index_or slots k.slot blank)) ≡ copies + one_if (is_copy held)
      → IsSound keys (slice_set slots k.slot held) free copies_then
  sound-written place k held copies_then at count =
      let same : length (slice_set slots k.slot held) ≡ length slots = length-set slots k.slot held in
      record {
        once = s.once;
        inside = λ slot h. s.inside slot (omega (arith, h, same));
        few = omega (arith, s.few, same);
        all = omega (arith, s.all, same);
        counted = omega (arith, count, copies-written place k held at);
      }

  -- the entries after one is put last
  pub entries-renewed : (place : ℕ) (k : Key) (d : Entry) → IsKeyAt keys place k
      → entries_of slots (remove keys place ++ k ∷ [])
      ≡ remove (entries_of slots keys) place ++ slice_index_or (entries_of slots keys) place d ∷ []
  entries-renewed place k d at =
      map-append (λ (key : Key). entry_at slots key) (remove keys place) (k ∷ [])
      ∙ rw (map-remove (λ (key : Key). entry_at slots key) keys place at.inside, entry-here place k d at) refl

  -- the table stays sound where an entry is put last
  pub sound-renewed : (place : ℕ) (k : Key) → IsKeyAt keys place k
      → IsSound (remove keys place ++ k ∷ []) slots free copies
  sound-renewed place k at =
      let same : (slot : ℕ) → uses (remove keys place ++ k ∷ []) free slot ≡ uses keys free slot =
      λ slot. omega (
        arith,
        sum_by-append (λ key. marks slot key) (remove keys place) (k ∷ []),
        sum_by-cons (λ key. marks slot key) k [],
        sum_by-remove (λ key. marks slot key) keys place k at.inside,
        ap (λ key. marks slot key) at.key,
      ) in
      let blank_entry : Entry = entry_at slots k in
      let few : place < length (entries_of slots keys) = omega (arith, at.inside, length-map keys (λ (key : Key). entry_at slots key)) in
      let there = slice_index_or (entries_of slots keys) place blank_entry in
      let counts : copies_in (remove (entries_of slots keys) place ++ there ∷ []) ≡ copies_in (entries_of slots keys) =
      omega (
        arith,
        sum_by-append (λ x. is_one x) (remove (entries_of slots keys) place) (there ∷ []),
        sum_by-cons (λ x. is_one x) there [],
        sum_by-remove (λ x. is_one x) (entries_of slots keys) place blank_entry few,
      ) in
      record {
        once = λ slot. omega (arith, s.once slot, same slot);
        inside = λ slot h. omega (arith, s.inside slot h, same slot);
        few = s.few;
        all = omega (arith, s.all, length-append (remove keys place) (k ∷ []), length-remove keys place at.inside);
        counted = rw (entries-renewed place k blank_entry at) (omega (arith, s.counted, counts));
      }

  -- the entries after one is taken out
  pub entries-removed : (place : ℕ) → place < length keys
      → entries_of slots (remove keys place) ≡ remove (entries_of slots keys) place
  entries-removed place l = map-remove (λ (key : Key). entry_at slots key) keys place l

  -- what that takes from the number of copies
  pub copies-removed : (place : ℕ) (k : Key) → IsKeyAt keys place k
      → copies_in (entries_of slots (remove keys place)) + one_if (is_copy (slice_index_or slots k.slot blank)) ≡ copies
  copies-removed place k at =
      let entry : Entry = entry_at slots k in
      let few : place < length (entries_of slots keys) = omega (arith, at.inside, length-map keys (λ (key : Key). entry_at slots key)) in
      let change = sum_by-remove (λ x. is_one x) (entries_of slots keys) place entry few in
      let old : is_one (slice_index_or (entries_of slots keys) place entry) ≡ is_one entry = ap (λ x. is_one x) (entry-here place k entry at) in
      rw (entries-removed place at.inside) (omega (arith, change, old, s.counted))

  -- the table stays sound where an entry is taken out and its slot is free
  pub sound-removed : (place : ℕ) (k : Key) (copies_then : ℕ) → IsKeyAt keys place k
      → copies_then + one_if (is_copy (slice_index_or slots k.slot blank)) ≡ copies
      → IsSound (remove keys place) slots (free ++ k.slot ∷ []) copies_then
  sound-removed place k copies_then at count =
      let same : (slot : ℕ) → uses (remove keys place) (free ++ k.slot ∷ []) slot ≡ uses keys free slot =
      λ slot. omega (
        arith,
        sum_by-append (λ x. marks_free slot x) free (k.slot ∷ []),
        sum_by-cons (λ x. marks_free slot x) k.slot [],
        sum_by-remove (λ key. marks slot key) keys place k at.inside,
        ap (λ key. marks slot key) at.key,
      ) in
      record {
        once = λ slot. omega (arith, s.once slot, same slot);
        inside = λ slot h. omega (arith, s.inside slot h, same slot);
        few = s.few;
        all = omega (arith, s.all, length-append free (k.slot ∷ []), length-remove keys place at.inside);
        counted = omega (arith, count, copies-removed place k at);
      }

  -- ## An entry added in a free slot

  module _ (rest : List ℕ) (slot : ℕ) (f : free ≡ rest ++ slot ∷ []) where
    -- the slot was free once
    freed : count_by (λ x. x == slot) free ≡ count_by (λ x. x == slot) rest + 1
    freed =
        let one : marks_free slot slot ≡ 1 = rw (eq-eqb slot slot refl) refl in
        rw f (omega (arith, one, sum_by-append (λ x. marks_free slot x) rest (slot ∷ []), sum_by-cons (λ x. marks_free slot x) slot []))

    -- it is there
    pub free-inside : slot < length slots
    free-inside =
        elim (cases_lt slot (length slots)) [
          | inl less ↦ less
          | inr beyond ↦ absurd (omega (arith, s.inside slot beyond, freed))
        ]

    -- the entries then
    pub entries-taken : (block : ℕ) (held : Held)
        → entries_of (slice_set slots slot held) (keys ++ record { block = block; slot = slot } ∷ [])
        ≡ entries_of slots keys ++ record { block = block; held = held } ∷ []
    entries-taken block held =
        let key : Key = record { block = block; slot = slot } in
        let none : keyed slot keys ≡ 0 = omega (arith, s.once slot, freed) in
        map-append (λ (key : Key). entry_at (slice_set slots slot held) key) keys (key ∷ [])
        ∙ rw (entries-other slots slot held keys none, get_or-set_same slots slot held blank free-inside) refl

    -- the table stays sound
    pub sound-taken : (block : ℕ) (held : Held)
        → IsSound (keys ++ record { block = block; slot = slot } ∷ []) (slice_set slots slot held) rest (copies + one_if (is_copy held))
    sound-taken block held =
        let key : Key = record { block = block; slot = slot } in
        let entry : Entry = record { block = block; held = held } in
        let same : (x : ℕ) → uses (keys ++ key ∷ []) rest x ≡ uses keys free x =
        λ x. rw f (omega (
          arith,
          sum_by-append (λ k. marks x k) keys (key ∷ []),
          sum_by-cons (λ k. marks x k) key [],
          sum_by-append (λ y. marks_free x y) rest (slot ∷ []),
          sum_by-cons (λ y. marks_free x y) slot [],
        )) in
        let long : length (slice_set slots slot held) ≡ length slots = length-set slots slot held in
        record {
          once = λ x. omega (arith, s.once x, same x);
          inside = λ x h. let past : length slots ≤ x = omega (arith, h, long) in omega (arith, s.inside x past, same x);
          few = omega (arith, s.few, long);
          all = omega (arith, s.all, long, length-append keys (key ∷ []), length-append rest (slot ∷ []), ap (λ (xs : List ℕ). length xs) f);
          counted = rw (entries-taken block held) (omega (arith, s.counted, sum_by-append (λ e. is_one e) (entries_of slots keys) (entry ∷ []), sum_by-cons (λ e. is_one e) entry []));
        }

  -- ## An entry added in a new slot

  -- the entries then
  pub entries-added : (block : ℕ) (held : Held)
      → entries_of (slots ++ held ∷ []) (keys ++ record { block = block; slot = length slots } ∷ [])
      ≡ entries_of slots keys ++ record { block = block; held = held } ∷ []
  entries-added block held =
      let key : Key = record { block = block; slot = length slots } in
      map-append (λ (key : Key). entry_at (slots ++ held ∷ []) key) keys (key ∷ [])
      ∙ rw (entries-more slots held keys (λ slot h. omega (arith, s.inside slot h)), get_or-append_seam slots held [] blank) refl

  -- the table stays sound
  pub sound-added : (block : ℕ) (held : Held) → length slots < COPIES
      → IsSound (keys ++ record { block = block; slot = length slots } ∷ []) (slots ++ held ∷ []) free (copies + one_if (is_copy held))
  sound-added block held room =
      let key : Key = record { block = block; slot = length slots } in
      let entry : Entry = record { block = block; held = held } in
      let more : (x : ℕ) → uses (keys ++ key ∷ []) free x ≡ uses keys free x + marks x key =
      λ x. omega (arith, sum_by-append (λ k. marks x k) keys (key ∷ []), sum_by-cons (λ k. marks x k) key []) in
      record {
        once = λ x. elim (cases_eq (length slots) x) [
          | inl here ↦ omega (arith, more x, s.inside x (omega (arith, here)), one_or_none (length slots == x))
          | inr other ↦ omega (arith, more x, s.once x, unmarked x key other)
        ];
        inside = λ x h.
            let past : length slots < x = omega (arith, h, length-append slots (held ∷ [])) in
            omega (arith, more x, s.inside x (omega (arith, past)), unmarked x key (λ e. omega (arith, past, e)));
        few = omega (arith, room, length-append slots (held ∷ []));
        all = omega (arith, s.all, length-append slots (held ∷ []), length-append keys (key ∷ []));
        counted = rw (entries-added block held) (omega (arith, s.counted, sum_by-append (λ e. is_one e) (entries_of slots keys) (entry ∷ []), sum_by-cons (λ e. is_one e) entry []));
      }

-- ## As the code has it

-- a place of the entries is one of the keys
pub place-inside : (keys : List Key) (slots : List Held) (es : List Entry) (place : ℕ) → entries_of slots keys ≡ es → place < length es
    → place < length keys
place-inside keys slots es place v l =
    omega (arith, l, length-map keys (λ (key : Key). entry_at slots key), ap (λ (xs : List Entry). length xs) v)

-- the key that was read at a place of the entries, through a slice of the keys
pub key_at : (keys shown : List Key) (slots : List Held) (es : List Entry) (place : ℕ) (k : Key) → entries_of slots keys ≡ es
    → place < length es → shown ≡ keys → k ≡ slice_index_or shown place k
    → IsKeyAt keys place k
key_at keys shown slots es place k v l same e = record {
  inside = place-inside keys slots es place v l;
  key = e ∙ ap (λ (ks : List Key). slice_index_or ks place k) same;
}

-- what a slot holds, read through a slice by a key that is the same
pub held-read : (slots shown : List Held) (k x : Key) (held : Held) → shown ≡ slots → k ≡ x → held ≡ slice_index_or shown x.slot held
    → k.slot < length slots → held ≡ slice_index_or slots k.slot blank
held-read slots shown k x held v same e l =
    e ∙ ap (λ (hs : List Held). slice_index_or hs x.slot held) v ∙ ap (λ (y : Key). slice_index_or slots y.slot held) (sym same)
    ∙ get_or_default slots k.slot held blank l

-- the first key of a block is at the place of its entry
pub place-found : (slots : List Held) (keys : List Key) (block place : ℕ) (k : Key) → IsKeyAt keys place k → k.block ≡ block
    → ((i : ℕ) (d : Key) → i < place → (slice_index_or keys i d).block ≢ block)
    → IsPlace block (entries_of slots keys) place
place-found slots keys block place k at is before =
    let entry : Key → Entry = λ key. entry_at slots key in
    let inside : place < length keys = at.inside in
    record {
      inside = omega (arith, inside, length-map keys entry);
      here = λ d. ap (λ (e : Entry). e.block) (get_or-map entry keys place k d inside ∙ ap entry (sym at.key)) ∙ is;
      first = λ i d h q.
          let there : i < length keys = omega (arith, h, inside) in
          before i k h (sym (ap (λ (e : Entry). e.block) (get_or-map entry keys i k d there)) ∙ q);
    }

-- a block without a key has no entry
pub none-found : (slots : List Held) (keys : List Key) (block : ℕ)
    → ((i : ℕ) (d : Key) → i < length keys → (slice_index_or keys i d).block ≢ block)
    → found block (entries_of slots keys) ≡ None
none-found slots [] block n = refl
none-found slots (k ∷ rest) block n =
    let other : (k.block == block) ≡ false = ne_eqb k.block block (n 0 k (omega arith)) in
    rw other (none-found slots rest block (λ i d h. n (suc i) d (omega (arith, h))))
