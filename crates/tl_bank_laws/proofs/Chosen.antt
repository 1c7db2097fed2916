-- The way that home chooses is the one that the rules say.
use Rattle.std.proofs.Common.{◌≡◌, ℕ, ◌<◌, ◌==◌, ◌&&◌, ◌||◌, not, Bool, true, false, List, [], ◌∷◌, length, Option, Some, None, if◌then◌else◌, refl, sym, ◌∙◌, ap, subst, arith, inl, inr}
use Rattle.std.proofs.lemmas.Bool.{cases_Bool, and_parts, not-true}
use Rattle.std.specs.Prelude.{find, is_none}
use Rattle.std.specs.List.{list_any}
use Rattle.tl_types.proofs.Lowest.{lowest-none, lowest-same, lowest-some, none-lowest}
use Rattle.tl_types.specs.Lowest.{lowest}
use Rattle.tl_registers.specs.Registers.{held_in, is_held}
use Rattle.tl_registers.specs.VictimWay.{IsChosen, IsFreeOrOldest, IsInOrder, block_in, is_free, lowest_free}
use Rattle.tl_registers.specs.declared.register.Register.{Register}
use Rattle.tl_registers.proofs.Order.{first-in-order-is-oldest}
use Rattle.tl_ways.specs.Orders.{chosen, is_busy, or_else, IsAmong}
use Rattle.tl_bank_spec.specs.View.{View}
use Rattle.tl_bank_spec.specs.Ways.{holds_way, slot_at, slots_at, way_in_set, ways_held}
use Rattle.tl_bank_home.specs.Homes.{HomeState, free_at, order_at}
use Rattle.tl_bank_laws.specs.Means.{WaysFit, is_filling, is_filling_by}
use Rattle.tl_bank_laws.proofs.Slots.{slots-in, slots-length}

-- ## The ways that are busy

-- the ways of a set that registers hold are those that are held
pub busy-is-held : (set way : ℕ) (xs : List Register) → is_busy (held_in set xs) way ≡ is_held (way_in_set set way) xs
busy-is-held set way [] = refl
busy-is-held set way (r ∷ rest) =
    elim (cases_Bool (r.way.set == set)) [
      | inl e ↦ rw e (ap (λ (b : Bool). (r.way.way == way) || b) (busy-is-held set way rest))
      | inr e ↦ rw e (busy-is-held set way rest)
    ]

-- a way that is filled is held
pub filling-is-held : (v : View) (set way : ℕ) (xs : List Register) → list_any (is_filling_by v set way) xs ≡ true
    → is_held (way_in_set set way) xs ≡ true
filling-is-held v set way [] h = cc
filling-is-held v set way (r ∷ rest) h =
    elim (cases_Bool ((r.way.set == set) && (r.way.way == way))) [
      | inl e ↦ rw e refl
      | inr e ↦ rw e (filling-is-held v set way rest (rw e at h))
    ]

-- ## The choice

-- what is found of an order is its first way that is not held
find-first : (busy held : ℕ → Bool) (order : List ℕ) → ((way : ℕ) → busy way ≡ held way)
    → find (λ way. not (busy way)) order ≡ find (λ way. not (held way)) order
find-first busy held [] same = refl
find-first busy held (w ∷ rest) same = rw (same w, find-first busy held rest same) refl

-- the first way of an order that is not held is one of it
first-among : (held : ℕ → Bool) (order : List ℕ) (way : ℕ) → find (λ w. not (held w)) order ≡ Some way → IsAmong way order × (held way ≡ false)
first-among held [] way h = cc
first-among held (w ∷ rest) way h =
    elim (cases_Bool (held w)) [
      | inl e ↦ let more = first-among held rest way (rw e at h) in (inr more.0, more.1)
      | inr e ↦ let h2 : Some w ≡ Some way = (rw e at h) in let same : w ≡ way = cc in (inl (sym same), ap held (sym same) ∙ e)
    ]

-- where there is no such way, all of the order are held
none-first : (held : ℕ → Bool) (order : List ℕ) (way : ℕ) → find (λ w. not (held w)) order ≡ None → IsAmong way order → held way ≡ true
none-first held [] way h among = absurd among
none-first held (w ∷ rest) way h among =
    elim (cases_Bool (held w)) [
      | inl e ↦ elim among [ inl same ↦ ap held same ∙ e | inr more ↦ none-first held rest way (rw e at h) more ]
      | inr e ↦ let bad : Some w ≡ None = (rw e at h) in cc
    ]

-- what home chooses, of ways that are free where no block lies in them, and busy where they are held
chosen-is : (free : ℕ → Bool) (order busy : List ℕ) (slots : List (Option ℕ)) (held : ℕ → Bool) (ways : ℕ)
    → length slots ≡ ways → ((way : ℕ) → way < ways → free way ≡ is_free (block_in slots way))
    → ((way : ℕ) → is_busy busy way ≡ held way)
    → chosen free ways order busy ≡ or_else (lowest_free slots held) (find (λ w. not (held w)) order)
unfolding chosen
chosen-is free order busy slots held ways long empty same =
    let lowest_is : lowest (λ way. free way && not (is_busy busy way)) ways ≡ lowest_free slots held =
    lowest-same (λ way. free way && not (is_busy busy way)) (λ way. is_free (block_in slots way) && not (held way)) ways
    (λ way l. rw (empty way l, same way) refl)
    ∙ ap (lowest (λ way. is_free (block_in slots way) && not (held way))) (sym long) in
    let first_is = find-first (is_busy busy) held order same in
    rw (lowest_is, first_is) refl

-- ## The way of a register

-- a way that home chooses is one that no register holds, and the one that the rules say
pub record Picks (v : View) (set way : ℕ) : Type 0 where
  pub inside : way < v.geometry.ways
  pub not_held : holds_way v set way ≡ false
  pub is : IsChosen (slots_at v set) (holds_way v set) v.log way

-- a way is free just where no block is in it
free-is : (slot : Option ℕ) → is_free slot ≡ is_none slot
free-is None = refl
free-is (Some block) = refl

-- the lowest free way that no register holds, or where there is none the first of the order that none holds, is such a way
picks-free : (v : View) (set way : ℕ) (order : List ℕ) (free : Option ℕ)
    → lowest_free (slots_at v set) (holds_way v set) ≡ free → IsInOrder (slots_at v set) (is_filling v set) v.log order
    → or_else free (find (λ w. not (holds_way v set w)) order) ≡ Some way → Picks v set way
picks-free v set way order (Some first) is ordered h =
    let same : first ≡ way = cc in
    let test : ℕ → Bool = λ w. is_free (block_in (slots_at v set) w) && not (holds_way v set w) in
    let found = lowest-some test (length (slots_at v set)) way (is ∙ h) in
    let parts = and_parts (is_free (block_in (slots_at v set) way)) (not (holds_way v set way)) found.1 in
    record {
      inside = let long = slots-length v set in omega (arith, long, found.0);
      not_held = not-true (holds_way v set way) parts.1;
      is = subst (λ (x : Option ℕ). IsFreeOrOldest x (slots_at v set) (holds_way v set) v.log way) (sym is) (sym same);
    }
picks-free v set way order None is ordered h =
    let oldest = first-in-order-is-oldest (slots_at v set) (holds_way v set) (is_filling v set) v.log order way ordered
    (λ w filled. filling-is-held v set w v.registers filled) h in
    record {
      inside = let long = slots-length v set in omega (arith, long, oldest.inside);
      not_held = oldest.not_held;
      is = subst (λ (x : Option ℕ). IsFreeOrOldest x (slots_at v set) (holds_way v set) v.log way) (sym is) oldest;
    }

-- home chooses of a set the lowest free way that no register holds, else the first of the order that none holds
chosen-of : (v : View) (home : HomeState) (set : ℕ) → WaysFit v home → set < v.geometry.sets
    → chosen (λ way. free_at home set way) v.geometry.ways (order_at home set) (held_in set v.registers)
    ≡ or_else (lowest_free (slots_at v set) (holds_way v set)) (find (λ w. not (holds_way v set w)) (order_at home set))
chosen-of v home set fit l =
    chosen-is (λ way. free_at home set way) (order_at home set) (held_in set v.registers) (slots_at v set) (holds_way v set) v.geometry.ways
    (slots-length v set)
    (λ way k. fit.free set way l k ∙ sym (free-is (slot_at v set way)) ∙ ap is_free (sym (slots-in v set way k)))
    (λ way. busy-is-held set way v.registers)

-- what home chooses of the ways that no register holds
pub chosen-picks : (v : View) (home : HomeState) (set way : ℕ) → WaysFit v home → set < v.geometry.sets
    → chosen (λ w. free_at home set w) v.geometry.ways (order_at home set) (held_in set v.registers) ≡ Some way → Picks v set way
chosen-picks v home set way fit l h =
    picks-free v set way (order_at home set) (lowest_free (slots_at v set) (holds_way v set)) refl (fit.orders set l)
    (sym (chosen-of v home set fit l) ∙ h)

-- where a way is picked, not all are held
pub picks-held : (v : View) (set way : ℕ) → Picks v set way → ways_held v set ≡ false
picks-held v set way p =
    some-lowest (λ w. not (holds_way v set w)) v.geometry.ways way p.inside (ap not p.not_held) (lowest (λ w. not (holds_way v set w)) v.geometry.ways) refl
  where
    some-lowest : (test : ℕ → Bool) (n i : ℕ) → i < n → test i ≡ true → (x : Option ℕ) → lowest test n ≡ x → is_none x ≡ false
    some-lowest test n i l passes None is = let fails = lowest-none test n i is l in let bad : true ≡ false = sym passes ∙ fails in cc
    some-lowest test n i l passes (Some j) is = refl

-- where home chooses none, all are held
pub none-held : (v : View) (home : HomeState) (set : ℕ) → WaysFit v home → set < v.geometry.sets
    → chosen (λ w. free_at home set w) v.geometry.ways (order_at home set) (held_in set v.registers) ≡ None → ways_held v set ≡ true
none-held v home set fit l h =
    let none = sym (chosen-of v home set fit l) ∙ h in
    ap is_none (none-lowest (λ w. not (holds_way v set w)) v.geometry.ways
    (λ w k. ap not (none-first (holds_way v set) (order_at home set) w
    (second (lowest_free (slots_at v set) (holds_way v set)) (find (λ w. not (holds_way v set w)) (order_at home set)) none)
    ((fit.orders set l).all w (let long = slots-length v set in omega (arith, long))))))
  where
    second : (x y : Option ℕ) → or_else x y ≡ None → y ≡ None
    second None y is = is
    second (Some z) y is = cc

-- the lowest free way that no register holds, or where there is none the oldest, is such a way
picks-by : (v : View) (set way : ℕ) (free : Option ℕ) → lowest_free (slots_at v set) (holds_way v set) ≡ free
    → IsFreeOrOldest free (slots_at v set) (holds_way v set) v.log way → Picks v set way
picks-by v set way (Some first) is h =
    let test : ℕ → Bool = λ w. is_free (block_in (slots_at v set) w) && not (holds_way v set w) in
    let found = lowest-some test (length (slots_at v set)) way (is ∙ ap Some (sym h)) in
    let parts = and_parts (is_free (block_in (slots_at v set) way)) (not (holds_way v set way)) found.1 in
    record {
      inside = let long = slots-length v set in omega (arith, long, found.0);
      not_held = not-true (holds_way v set way) parts.1;
      is = subst (λ (x : Option ℕ). IsFreeOrOldest x (slots_at v set) (holds_way v set) v.log way) (sym is) h;
    }
picks-by v set way None is h = record {
  inside = let long = slots-length v set in omega (arith, long, h.inside);
  not_held = h.not_held;
  is = subst (λ (x : Option ℕ). IsFreeOrOldest x (slots_at v set) (holds_way v set) v.log way) (sym is) h;
}

-- a way that the rules say is one of the set that no register holds
pub picks-chosen : (v : View) (set way : ℕ) → IsChosen (slots_at v set) (holds_way v set) v.log way → Picks v set way
picks-chosen v set way h = picks-by v set way (lowest_free (slots_at v set) (holds_way v set)) refl h
