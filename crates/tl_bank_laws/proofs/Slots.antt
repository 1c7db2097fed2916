-- In which way each block lies, and which block is in each way.
use Rattle.std.proofs.Common.{◌≡◌, ℕ, zero, suc, ◌<◌, ◌≤◌, ◌==◌, true, false, List, [], ◌∷◌, ◌++◌, length, Option, Some, None, is_none, refl, sym, ◌∙◌, ap, arith, inl, inr, eqb-true, eq-eqb, length-append}
use Rattle.std.specs.Prelude.{slice_index_or}
use Rattle.std.proofs.lemmas.Bool.{cases_eq, cases_lt, and_parts}
use Rattle.std.proofs.lemmas.List.{get_or_append_left, get_or_past}
use Rattle.std.proofs.Math.Seq.{get_or-append_seam}
use Rattle.tl_types.proofs.Lowest.{lowest-none, lowest-one, lowest-some, lowest-same}
use Rattle.tl_types.specs.Lowest.{lowest}
use Rattle.tl_map.specs.Places.{bank_of, set_of}
use Rattle.tl_registers.specs.VictimWay.{block_in}
use Rattle.tl_bank_spec.specs.View.{View}
use Rattle.tl_bank_spec.specs.Own.{IsOwn, way_at, ways_below}
use Rattle.tl_bank_spec.specs.Ways.{is_in_way, lies_in, slot_at, slots_below, slots_at}

-- ## Lists by number

-- there is a place for each number below n
pub below-length : (f : ℕ → Option ℕ) (n : ℕ) → length (ways_below f n) ≡ n
below-length f zero = refl
below-length f (suc n) =
    let k = below-length f n in
    let l = length-append (ways_below f n) (f n ∷ []) in
    omega (arith, k, l)

-- what stands at a number below n
pub below-at : (f : ℕ → Option ℕ) (n i : ℕ) → i < n → slice_index_or (ways_below f n) i None ≡ f i
below-at f zero i l = absurd (omega arith)
below-at f (suc n) i l =
    let long = below-length f n in
    elim (cases_eq i n) [
      | inl e ↦
          ap (λ (k : ℕ). slice_index_or (ways_below f n ++ f n ∷ []) k None) (e ∙ sym long)
          ∙ get_or-append_seam (ways_below f n) (f n) [] None ∙ ap f (sym e)
      | inr e ↦ get_or_append_left (ways_below f n) (f n ∷ []) None i (omega (arith, long)) ∙ below-at f n i (omega arith)
    ]

-- and from n on nothing
pub below-past : (f : ℕ → Option ℕ) (n i : ℕ) → n ≤ i → slice_index_or (ways_below f n) i None ≡ None
below-past f n i l = let long = below-length f n in get_or_past (ways_below f n) i None (omega (arith, long))

-- the same list of the same function
pub below-same : (f g : ℕ → Option ℕ) (n : ℕ) → ((i : ℕ) → i < n → f i ≡ g i) → ways_below f n ≡ ways_below g n
below-same f g zero same = refl
below-same f g (suc n) same =
    let before = below-same f g n (λ i l. same i (omega arith)) in
    let here = same n (omega arith) in
    rw (before, here) refl

-- ## Which block is in a way

-- where a place is empty nothing is there
pub none-is : (slot : Option ℕ) → is_none slot ≡ true → slot ≡ None
none-is None h = refl
none-is (Some block) h = cc

-- and else something is
pub some-is : (slot : Option ℕ) → is_none slot ≡ false → (x : ℕ) × (slot ≡ Some x)
some-is None h = cc
some-is (Some x) h = (x, refl)

-- where the test says that a block lies in this way, it does
is_way-true : (way : ℕ) (o : Option ℕ) → is_in_way way o ≡ true → o ≡ Some way
is_way-true way None h = cc
is_way-true way (Some lies) h = ap Some (eqb-true lies way h)

-- a block that lies in a way of a set is a block of the bank and of the set
pub lies-true : (v : View) (set way b : ℕ) → lies_in v set way b ≡ true
    → (bank_of v.geometry b ≡ v.number) × (set_of v.geometry b ≡ set) × (way_at v b ≡ Some way)
lies-true v set way b h =
    let one = and_parts (bank_of v.geometry b == v.number) _ h in
    let two = and_parts (set_of v.geometry b == set) (is_in_way way (way_at v b)) one.1 in
    (eqb-true (bank_of v.geometry b) v.number one.0, eqb-true (set_of v.geometry b) set two.0, is_way-true way (way_at v b) two.1)

-- and a block of the bank and of the set that has this way lies in it
pub true-lies : (v : View) (set way b : ℕ) → bank_of v.geometry b ≡ v.number → set_of v.geometry b ≡ set → way_at v b ≡ Some way
    → lies_in v set way b ≡ true
true-lies v set way b own in_set lies =
    let p : (bank_of v.geometry b == v.number) ≡ true = eq-eqb (bank_of v.geometry b) v.number own in
    let q : (set_of v.geometry b == set) ≡ true = eq-eqb (set_of v.geometry b) set in_set in
    let r : is_in_way way (way_at v b) ≡ true = ap (is_in_way way) lies ∙ eq-eqb way way refl in
    rw (p, q, r) refl

-- the block in a way lies there
pub slot-lies : (v : View) (set way b : ℕ) → slot_at v set way ≡ Some b
    → IsOwn v.geometry v.number b × (set_of v.geometry b ≡ set) × (way_at v b ≡ Some way)
slot-lies v set way b h =
    let k = lowest-some (lies_in v set way) v.geometry.memory_blocks b h in
    let t = lies-true v set way b k.1 in
    ((k.0, t.0), t.1, t.2)

-- a block that lies in a way, in which no other does, is the one in it
pub lies-slot : (v : View) (set way b : ℕ) → IsOwn v.geometry v.number b → set_of v.geometry b ≡ set → way_at v b ≡ Some way
    → ((a : ℕ) → IsOwn v.geometry v.number a → set_of v.geometry a ≡ set → way_at v a ≡ Some way → a ≡ b)
    → slot_at v set way ≡ Some b
lies-slot v set way b own in_set lies one =
    lowest-one (lies_in v set way) v.geometry.memory_blocks b own.0 (true-lies v set way b own.1 in_set lies)
    (λ x l t. let k = lies-true v set way x t in one x (l, k.0) k.1 k.2)

-- in an empty way no block lies
pub slot-empty : (v : View) (set way b : ℕ) → slot_at v set way ≡ None → b < v.geometry.memory_blocks → lies_in v set way b ≡ false
slot-empty v set way b h l = lowest-none (lies_in v set way) v.geometry.memory_blocks b h l

-- the same block is in a way of another view, of the same memory, where the same blocks lie in it
pub slot-same : (v t : View) (set way : ℕ) → t.geometry.memory_blocks ≡ v.geometry.memory_blocks
    → ((b : ℕ) → b < v.geometry.memory_blocks → lies_in t set way b ≡ lies_in v set way b) → slot_at t set way ≡ slot_at v set way
slot-same v t set way size same =
    ap (λ n. lowest (lies_in t set way) n) size
    ∙ lowest-same (lies_in t set way) (lies_in v set way) v.geometry.memory_blocks same

-- ## The ways of a set

-- they are a list of what each way has
pub slots-are : (v : View) (set n : ℕ) → slots_below v set n ≡ ways_below (slot_at v set) n
slots-are v set zero = refl
slots-are v set (suc n) = let before = slots-are v set n in rw before refl

-- there are as many as the geometry says
pub slots-length : (v : View) (set : ℕ) → length (slots_at v set) ≡ v.geometry.ways
slots-length v set =
    ap (λ (xs : List (Option ℕ)). length xs) (slots-are v set v.geometry.ways) ∙ below-length (slot_at v set) v.geometry.ways

-- what is in each way
pub slots-in : (v : View) (set way : ℕ) → way < v.geometry.ways → block_in (slots_at v set) way ≡ slot_at v set way
slots-in v set way l =
    ap (λ (xs : List (Option ℕ)). block_in xs way) (slots-are v set v.geometry.ways) ∙ below-at (slot_at v set) v.geometry.ways way l

-- past the ways there is nothing
pub slots-past : (v : View) (set way : ℕ) → v.geometry.ways ≤ way → block_in (slots_at v set) way ≡ None
slots-past v set way l =
    ap (λ (xs : List (Option ℕ)). block_in xs way) (slots-are v set v.geometry.ways) ∙ below-past (slot_at v set) v.geometry.ways way l

-- a block that is in a way: the way is one of the set's
pub slots-some : (v : View) (set way b : ℕ) → block_in (slots_at v set) way ≡ Some b
    → (way < v.geometry.ways) × (slot_at v set way ≡ Some b)
slots-some v set way b h =
    elim (cases_lt way v.geometry.ways) [
      | inl l ↦ (l, sym (slots-in v set way l) ∙ h)
      | inr l ↦ let none = slots-past v set way l in let bad : None ≡ Some b = sym none ∙ h in cc
    ]

-- the same is in all ways of a set
pub slots-same : (v t : View) (set : ℕ) → t.geometry.ways ≡ v.geometry.ways
    → ((way : ℕ) → way < v.geometry.ways → slot_at t set way ≡ slot_at v set way) → slots_at t set ≡ slots_at v set
slots-same v t set size same =
    slots-are t set t.geometry.ways ∙ ap (ways_below (slot_at t set)) size
    ∙ below-same (slot_at t set) (slot_at v set) v.geometry.ways same ∙ sym (slots-are v set v.geometry.ways)
