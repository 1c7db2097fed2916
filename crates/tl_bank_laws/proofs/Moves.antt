-- What a block that comes into a way or leaves it changes of what lies in the ways of a set.
use Rattle.std.proofs.Common.{◌≡◌, ◌≢◌, ℕ, zero, suc, ◌<◌, ◌==◌, Bool, true, false, List, [], ◌∷◌, length, set, slice_index_or, Option, Some, None, if◌then◌else◌, refl, sym, ◌∙◌, ap, subst, arith, inl, inr, eq-eqb}
use Rattle.std.proofs.lemmas.Bool.{cases_eq, cases_lt, cases_Bool, ne_eqb}
use Rattle.std.proofs.lemmas.List.{set-append_left}
use Rattle.std.proofs.Math.Seq.{set-append_seam}
use Rattle.tl_types.proofs.Lowest.{lowest-same, none-lowest}
use Rattle.tl_map.specs.Places.{bank_of, set_of}
use Rattle.tl_bank_spec.specs.View.{View}
use Rattle.tl_bank_spec.specs.Own.{IsOwn, way_at, ways_below}
use Rattle.tl_bank_spec.specs.Ways.{lies_in, slot_at, slots_at}
use Rattle.tl_bank_laws.proofs.Slots.{below-at, below-length, below-past, below-same, lies-slot, lies-true, slot-empty, slots-are, true-lies}

-- ## What changes at one block

-- the value of the block
pub at-block : {X : Type 0} (block : ℕ) (x y : X) → (if block == block then x else y) ≡ x
at-block block x y = let same : (block == block) ≡ true = eq-eqb block block refl in rw same refl

-- the value of another
pub at-other : {X : Type 0} (block b : ℕ) (x y : X) → b ≢ block → (if b == block then x else y) ≡ y
at-other block b x y ne = let fails : (b == block) ≡ false = ne_eqb b block ne in rw fails refl

-- ## One slot of a set

-- two tests of which each passes where the other does are the same
tests-agree : (s t : Bool) → (s ≡ true → t ≡ true) → (t ≡ true → s ≡ true) → s ≡ t
tests-agree true t to from = sym (to refl)
tests-agree false true to from = from refl
tests-agree false false to from = refl

-- the list of another function, which differs at one number
below-one : (f g : ℕ → Option ℕ) (n i : ℕ) (x : Option ℕ) → i < n → g i ≡ x → ((j : ℕ) → j ≢ i → g j ≡ f j)
    → ways_below g n ≡ set (ways_below f n) i x
below-one f g zero i x l here same = absurd (omega arith)
below-one f g (suc n) i x l here same =
    let xs : List (Option ℕ) = ways_below f n in
    let long : length xs ≡ n = below-length f n in
    elim (cases_eq i n) [
      | inl q ↦
          let before : ways_below g n ≡ xs = below-same g f n (λ j m. same j (λ e. absurd (omega (arith, e, q, m)))) in
          let last : g n ≡ x = ap g (sym q) ∙ here in
          let at : i ≡ length xs = q ∙ sym long in
          rw (before, last, at) (sym (set-append_seam xs (f n) [] x))
      | inr ne ↦
          let inside : i < length xs = omega (arith, long) in
          let before : ways_below g n ≡ set xs i x = below-one f g n i x (omega arith) here same in
          let last : g n ≡ f n = same n (λ e. ne (sym e)) in
          rw (before, last) (sym (set-append_left xs (f n ∷ []) i x inside))
    ]

-- ## A block moves

-- the view with other ways
abbrev pub with_ways : View → List (Option ℕ) → View
with_ways v ways = record v { ways = ways }

-- one block lies there, and each other of the memory where it lay
abbrev pub Moves : View → List (Option ℕ) → ℕ → Option ℕ → Type 0
Moves v ways block at =
    (b : ℕ) → b < v.geometry.memory_blocks → way_at (with_ways v ways) b ≡ (if b == block then at else way_at v b)

-- by list: a function that puts one block there puts it there in its list
pub list-moves : (old new : ℕ → Option ℕ) (n block : ℕ) (at : Option ℕ) → block < n
    → ((b : ℕ) → new b ≡ (if b == block then at else old b)) → (b : ℕ)
    → slice_index_or (ways_below new n) b None ≡ (if b == block then at else slice_index_or (ways_below old n) b None)
list-moves old new n block at inside is b =
    elim (cases_lt b n) [
      | inl l ↦ below-at new n b l ∙ is b ∙ ap (λ (x : Option ℕ). if b == block then at else x) (sym (below-at old n b l))
      | inr m ↦
          below-past new n b m ∙ sym (below-past old n b m)
          ∙ sym (at-other block b at (slice_index_or (ways_below old n) b None) (λ e. absurd (omega (arith, e, m, inside))))
    ]

-- A block of the bank and of the set lies in the way.
pub record Lies (v : View) (set way block : ℕ) : Type 0 where
  pub inside : block < v.geometry.memory_blocks
  pub here : bank_of v.geometry block ≡ v.number
  pub in_set : set_of v.geometry block ≡ set
  pub lies : way_at v block ≡ Some way

-- a block of the memory that is found in a way lies there
pub lies-of : (v : View) (set way block : ℕ) → block < v.geometry.memory_blocks → lies_in v set way block ≡ true → Lies v set way block
lies-of v s way block l h =
    let k = lies-true v s way block h in record { inside = l; here = k.0; in_set = k.1; lies = k.2 }

-- and a block that lies in a way is found there
pub of-lies : (v : View) (set way block : ℕ) → Lies v set way block → lies_in v set way block ≡ true
of-lies v s way block l = true-lies v s way block l.here l.in_set l.lies

-- in an empty slot no block lies
pub empty-lies : (v : View) (set way block : ℕ) → slot_at v set way ≡ None → Lies v set way block → ⊥
empty-lies v s way block none l =
    let fails = slot-empty v s way block none l.inside in
    let bad : true ≡ false = sym (of-lies v s way block l) ∙ fails in
    cc

-- a slot where no block lies is empty
pub lies-empty : (v : View) (set way : ℕ) → ((block : ℕ) → Lies v set way block → ⊥) → slot_at v set way ≡ None
lies-empty v s way none =
    none-lowest (lies_in v s way) v.geometry.memory_blocks
    (λ block l. elim (cases_Bool (lies_in v s way block)) [
      | inl is ↦ absurd (none block (lies-of v s way block l is))
      | inr fails ↦ fails
    ])

-- the block lies there then
pub moved-here : (v : View) (ways : List (Option ℕ)) (block : ℕ) (at : Option ℕ) → Moves v ways block at → block < v.geometry.memory_blocks
    → way_at (with_ways v ways) block ≡ at
moved-here v ways block at m l = m block l ∙ at-block block at (way_at v block)

-- and each other block of the memory is in the way in which it was
pub moved-other : (v : View) (ways : List (Option ℕ)) (block b : ℕ) (at : Option ℕ) → Moves v ways block at → b < v.geometry.memory_blocks
    → b ≢ block → way_at (with_ways v ways) b ≡ way_at v b
moved-other v ways block b at m l ne = m b l ∙ at-other block b at (way_at v b) ne

-- another block lies where it lay
pub moved-lies : (v : View) (ways : List (Option ℕ)) (block b : ℕ) (at : Option ℕ) (s way : ℕ) → Moves v ways block at → b ≢ block
    → Lies (with_ways v ways) s way b → Lies v s way b
moved-lies v ways block b at s way m ne l =
    record { inside = l.inside; here = l.here; in_set = l.in_set; lies = sym (moved-other v ways block b at m l.inside ne) ∙ l.lies }

-- and where it lay it still lies
lies-moved : (v : View) (ways : List (Option ℕ)) (block b : ℕ) (at : Option ℕ) (s way : ℕ) → Moves v ways block at → b ≢ block
    → Lies v s way b → Lies (with_ways v ways) s way b
lies-moved v ways block b at s way m ne l =
    record { inside = l.inside; here = l.here; in_set = l.in_set; lies = moved-other v ways block b at m l.inside ne ∙ l.lies }

-- a slot in which the block neither lay nor lies is as it was
pub slot-stays-moved : (v : View) (ways : List (Option ℕ)) (block : ℕ) (at : Option ℕ) (s way : ℕ) → Moves v ways block at
    → (Lies v s way block → ⊥) → (Lies (with_ways v ways) s way block → ⊥) → slot_at (with_ways v ways) s way ≡ slot_at v s way
slot-stays-moved v ways block at s way m lay lies =
    let w : View = with_ways v ways in
    lowest-same (lies_in w s way) (lies_in v s way) v.geometry.memory_blocks
    (λ b l. tests-agree (lies_in w s way b) (lies_in v s way b)
    (λ is. let there : Lies w s way b = lies-of w s way b l is in
    elim (cases_eq b block) [
      | inl q ↦ absurd (lies (subst (λ (x : ℕ). Lies w s way x) q there))
      | inr ne ↦ of-lies v s way b (moved-lies v ways block b at s way m ne there)
    ])
    (λ is. let there : Lies v s way b = lies-of v s way b l is in
    elim (cases_eq b block) [
      | inl q ↦ absurd (lay (subst (λ (x : ℕ). Lies v s way x) q there))
      | inr ne ↦ of-lies w s way b (lies-moved v ways block b at s way m ne there)
    ]))

-- the slots of a set of which one changed
slots-one : (v w : View) (s way : ℕ) (x : Option ℕ) → w.geometry.ways ≡ v.geometry.ways → way < v.geometry.ways → slot_at w s way ≡ x
    → ((other : ℕ) → other ≢ way → slot_at w s other ≡ slot_at v s other) → slots_at w s ≡ set (slots_at v s) way x
slots-one v w s way x size l here same =
    slots-are w s w.geometry.ways ∙ ap (ways_below (slot_at w s)) size
    ∙ below-one (slot_at v s) (slot_at w s) v.geometry.ways way x l here same
    ∙ ap (λ (xs : List (Option ℕ)). set xs way x) (sym (slots-are v s v.geometry.ways))

-- those of a set of which none changed
slots-none : (v w : View) (s : ℕ) → w.geometry.ways ≡ v.geometry.ways → ((other : ℕ) → slot_at w s other ≡ slot_at v s other)
    → slots_at w s ≡ slots_at v s
slots-none v w s size same =
    slots-are w s w.geometry.ways ∙ ap (ways_below (slot_at w s)) size
    ∙ below-same (slot_at w s) (slot_at v s) v.geometry.ways (λ j l. same j) ∙ sym (slots-are v s v.geometry.ways)

-- ## A block comes into a free way

-- A block of the bank, which lay nowhere, comes into a way where no block lay.
pub record Comes (v : View) (ways : List (Option ℕ)) (block way : ℕ) : Type 0 where
  pub moves : Moves v ways block (Some way)
  pub inside : block < v.geometry.memory_blocks
  pub here : bank_of v.geometry block ≡ v.number
  pub nowhere : way_at v block ≡ None
  pub free : slot_at v (set_of v.geometry block) way ≡ None

-- a block that is in no way lies in no way of a set
nowhere-lies : (v : View) (block s way : ℕ) → way_at v block ≡ None → Lies v s way block → ⊥
nowhere-lies v block s way none l = let bad : None ≡ Some way = sym none ∙ l.lies in cc

-- its slot has it then
pub slot-comes : (v : View) (ways : List (Option ℕ)) (block way : ℕ) → Comes v ways block way
    → slot_at (with_ways v ways) (set_of v.geometry block) way ≡ Some block
slot-comes v ways block way c =
    let s : ℕ = set_of v.geometry block in
    lies-slot (with_ways v ways) s way block (c.inside, c.here) refl (moved-here v ways block (Some way) c.moves c.inside)
    (λ other own in_set lies. elim (cases_eq other block) [
      | inl q ↦ q
      | inr ne ↦
          absurd (empty-lies v s way other c.free
          (moved-lies v ways block other (Some way) s way c.moves ne (record { inside = own.0; here = own.1; in_set = in_set; lies = lies })))
    ])

-- each other slot is as it was
pub slot-comes-other : (v : View) (ways : List (Option ℕ)) (block way s other : ℕ) → Comes v ways block way
    → ((s ≡ set_of v.geometry block) × (other ≡ way) → ⊥) → slot_at (with_ways v ways) s other ≡ slot_at v s other
slot-comes-other v ways block way s other c ne =
    slot-stays-moved v ways block (Some way) s other c.moves (nowhere-lies v block s other c.nowhere)
    (λ l.
    let same : Some way ≡ Some other = sym (moved-here v ways block (Some way) c.moves c.inside) ∙ l.lies in
    let is : other ≡ way = cc in
    ne (sym l.in_set, is))

-- the slots of its set then
pub slots-come : (v : View) (ways : List (Option ℕ)) (block way : ℕ) → Comes v ways block way → way < v.geometry.ways
    → slots_at (with_ways v ways) (set_of v.geometry block) ≡ set (slots_at v (set_of v.geometry block)) way (Some block)
slots-come v ways block way c l =
    slots-one v (with_ways v ways) (set_of v.geometry block) way (Some block) refl l (slot-comes v ways block way c)
    (λ other ne. slot-comes-other v ways block way (set_of v.geometry block) other c (λ both. ne both.1))

-- those of another set are as they were
pub slots-come-other : (v : View) (ways : List (Option ℕ)) (block way s : ℕ) → Comes v ways block way → s ≢ set_of v.geometry block
    → slots_at (with_ways v ways) s ≡ slots_at v s
slots-come-other v ways block way s c ne =
    slots-none v (with_ways v ways) s refl (λ other. slot-comes-other v ways block way s other c (λ both. ne both.0))

-- ## A block leaves its way

-- A block of the bank leaves the way in which it lies, alone.
pub record Goes (v : View) (ways : List (Option ℕ)) (block way : ℕ) : Type 0 where
  pub moves : Moves v ways block None
  pub inside : block < v.geometry.memory_blocks
  pub here : bank_of v.geometry block ≡ v.number
  pub lies : way_at v block ≡ Some way
  pub once :
      (other : ℕ) → IsOwn v.geometry v.number other → set_of v.geometry other ≡ set_of v.geometry block → way_at v other ≡ Some way
      → other ≡ block

-- its slot is empty then
pub slot-goes : (v : View) (ways : List (Option ℕ)) (block way : ℕ) → Goes v ways block way
    → slot_at (with_ways v ways) (set_of v.geometry block) way ≡ None
slot-goes v ways block way g =
    let s : ℕ = set_of v.geometry block in
    let w : View = with_ways v ways in
    lies-empty w s way
    (λ other there. elim (cases_eq other block) [
      | inl q ↦
          let gone : way_at w other ≡ None = ap (way_at w) q ∙ moved-here v ways block None g.moves g.inside in
          nowhere-lies w other s way gone there
      | inr ne ↦
          let lay = moved-lies v ways block other None s way g.moves ne there in
          ne (g.once other (lay.inside, lay.here) lay.in_set lay.lies)
    ])

-- each other slot is as it was
pub slot-goes-other : (v : View) (ways : List (Option ℕ)) (block way s other : ℕ) → Goes v ways block way
    → ((s ≡ set_of v.geometry block) × (other ≡ way) → ⊥) → slot_at (with_ways v ways) s other ≡ slot_at v s other
slot-goes-other v ways block way s other g ne =
    slot-stays-moved v ways block None s other g.moves
    (λ l.
    let same : Some way ≡ Some other = sym g.lies ∙ l.lies in
    let is : other ≡ way = cc in
    ne (sym l.in_set, is))
    (nowhere-lies (with_ways v ways) block s other (moved-here v ways block None g.moves g.inside))
