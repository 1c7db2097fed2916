-- The tables of all clients after one of them changes.
use Rattle.std.proofs.Common.{◌≡◌, ◌≢◌, ℕ, ◌<◌, ◌≤◌, ◌==◌, Bool, true, false, List, [], length, Option, Some, None, if◌then◌else◌, slice_index_or, slice_set, refl, sym, ◌∙◌, ap, subst, arith, eqb-true, eq-eqb, inl, inr}
use Rattle.std.specs.Prelude.{All, MatchOption, option_map, OnOk, OnErr, IsErr, Result, ◌↔◌}
use Rattle.std.proofs.Common.{Ok, Err}
use Rattle.std.proofs.lemmas.List.Elements.{All-set}
use Rattle.std.proofs.lemmas.Bool.{cases_order}
use Rattle.std.proofs.lemmas.List.{get_or_default, get_or-set_same, get_or-set_other}
use Rattle.tl_types.specs.declared.wait.Awaited.{Awaited}
use Rattle.tl_copies.specs.declared.held.Held.{Held}
use Rattle.tl_copies.specs.Held.{is_renewed_entry, waiting}
use Rattle.tl_copies.specs.Entries.{Entry, found, without_entry, replaced, kept, IsTable}
use Rattle.tl_copies.specs.Copies.{Tables, clients_of, held_at, order_in, is_cell, entries, order_without, order_after}
use Rattle.tl_copies.proofs.EntryLaws.{blocks, flipped, found-replaced_here, found-replaced_other, AreApart-replaced, length-replaced, order-replaced, found-kept, found-without, order-kept, order-without, IsTable-kept, IsTable-without}
use Rattle.tl_copies.proofs.CountLaws.{entries-table}

-- the bank, the limit, the blocks and the clients' tables, as contracts see them
abbrev pub tables_of : ℕ → ℕ → ℕ → List (List Entry) → Tables
tables_of bank limit n tables = record { bank = bank; limit = limit; blocks = n; tables = tables }

-- the table of a client
pub table_at : (tables : List (List Entry)) (client : ℕ) (table : List Entry) → client < length tables
    → table ≡ slice_index_or tables client table
    → slice_index_or tables client [] ≡ table
table_at tables client table h e = sym (e ∙ get_or_default tables client table [] h)

-- what is read off a client's table is the new table's where that client's changed, and else stays
set_at : {X : Type 0} (f : List Entry → X) (tables : List (List Entry)) (client x : ℕ) (new : List Entry) (here : Bool)
    → client < length tables → (x == client) ≡ here
    → f (slice_index_or (slice_set tables client new) x []) ≡ (if here then f new else f (slice_index_or tables x []))
set_at f tables client x new true h e = rw (eqb-true x client e, get_or-set_same tables client new [] h) refl
set_at f tables client x new false h e =
    let other : x ≢ client = λ q. let u : (x == client) ≡ true = eq-eqb x client q in cc in
    rw (get_or-set_other tables client x new [] other) refl

-- the map after the table of one client changes in one block
pub held_at-set : (bank limit n : ℕ) (tables : List (List Entry)) (client block : ℕ) (old new : List Entry) (value : Option Held)
    → client < length tables → slice_index_or tables client [] ≡ old
    → ((y : ℕ) → found y new ≡ (if y == block then value else found y old))
    → (x y : ℕ)
    → held_at (tables_of bank limit n (slice_set tables client new)) x y
    ≡ (if is_cell client block x y then value else held_at (tables_of bank limit n tables) x y)
unfolding held_at
held_at-set bank limit n tables client block old new value h o f x y = by_test (x == client) refl
  where
    by_test : (here : Bool) → (x == client) ≡ here
        → found y (slice_index_or (slice_set tables client new) x [])
        ≡ (if is_cell client block x y then value else found y (slice_index_or tables x []))
    by_test true e =
        set_at (λ (t : List Entry). found y t) tables client x new true h e
        ∙ f y
        ∙ rw (e, eqb-true x client e, o) refl
    by_test false e = set_at (λ (t : List Entry). found y t) tables client x new false h e ∙ rw e refl

-- the order after the table of one client changes
pub order_in-set : (bank limit n : ℕ) (tables : List (List Entry)) (client : ℕ) (old new : List Entry) (f : List ℕ → List ℕ)
    → client < length tables → slice_index_or tables client [] ≡ old → blocks new ≡ f (blocks old)
    → (x : ℕ)
    → order_in (tables_of bank limit n (slice_set tables client new)) x
    ≡ (if x == client then f (order_in (tables_of bank limit n tables) x) else order_in (tables_of bank limit n tables) x)
unfolding order_in
order_in-set bank limit n tables client old new f h o b x = by_test (x == client) refl
  where
    by_test : (here : Bool) → (x == client) ≡ here
        → blocks (slice_index_or (slice_set tables client new) x [])
        ≡ (if x == client then f (blocks (slice_index_or tables x [])) else blocks (slice_index_or tables x []))
    by_test true e =
        set_at (λ (t : List Entry). blocks t) tables client x new true h e ∙ b ∙ rw (e, eqb-true x client e, o) refl
    by_test false e = set_at (λ (t : List Entry). blocks t) tables client x new false h e ∙ rw e refl

-- ## What a client's table is in all tables

-- what is said where it succeeds leads on there
pub on_ok : {T E P Q : Type 0} (r : Result T E) → (P → Q) → OnOk r P → OnOk r Q
on_ok (Ok x) f p = f p
on_ok (Err e) f p = p

-- a number of entries that does not reach the limit is below it
at_most : (a b : ℕ) → (b ≤ a → ⊥) → a < b
at_most a b h =
    elim (cases_order a b) [
      | inl same ↦ absurd (h (omega arith))
      | inr (inl less) ↦ less
      | inr (inr more) ↦ absurd (h (omega arith))
    ]

-- a table is full where nothing was kept for want of room
abbrev IsFull : ℕ → ℕ → List Entry → Type 0
IsFull limit block old = (found block old ≡ None) × (limit ≤ length old)

-- a table stays one whether a copy was kept or there was no room for it
kept_sound : {T E : Type 0} (result : Result T E) (limit n block : ℕ) (held : Held) (old new : List Entry)
    → OnOk result (new ≡ kept block held old) → OnErr result (new ≡ old) → (IsErr result ↔ IsFull limit block old)
    → IsTable limit n old → block < n → IsTable limit n new
kept_sound (Ok x) limit n block held old new e u f t l =
    rw e (IsTable-kept limit n block held old t l (λ none. at_most (length old) limit (λ full. let no = f.1 (none, full) in cc)))
kept_sound (Err x) limit n block held old new e u f t l = rw u t

-- what a change of the block's entry leaves of a table
abbrev IsChanged : (Held → Held) → ℕ → List Entry → List Entry → Type 0
IsChanged f block old new = MatchOption (found block old) (new ≡ old) (λ held. new ≡ replaced block (f held) old)

module _ (f : Held → Held) (block : ℕ) (old new : List Entry) where
  -- each entry found in the changed table
  found_changed : IsChanged f block old new → (y : ℕ)
      → found y new ≡ (if y == block then option_map f (found block old) else found y old)
  found_changed change y = by_case (found block old) refl change (y == block) refl
    where
      by_case : (o : Option Held) → found block old ≡ o → MatchOption o (new ≡ old) (λ held. new ≡ replaced block (f held) old)
          → (here : Bool) → (y == block) ≡ here
          → found y new ≡ (if here then option_map f o else found y old)
      by_case None is same true e = rw (same, eqb-true y block e) is
      by_case None is same false e = rw same refl
      by_case (Some held) is changed true e = rw (changed, eqb-true y block e) (found-replaced_here block (f held) held old is)
      by_case (Some held) is changed false e = rw changed (found-replaced_other block y (f held) old (flipped y block e))

  -- the order stays
  blocks_changed : IsChanged f block old new → blocks new ≡ blocks old
  blocks_changed change = by_case (found block old) change
    where
      by_case : (o : Option Held) → MatchOption o (new ≡ old) (λ held. new ≡ replaced block (f held) old) → blocks new ≡ blocks old
      by_case None same = rw same refl
      by_case (Some held) changed = rw changed (order-replaced block (f held) old)

  -- the table stays one
  sound_changed : (limit n : ℕ) → IsChanged f block old new → IsTable limit n old → IsTable limit n new
  sound_changed limit n change t = by_case (found block old) change
    where
      by_case : (o : Option Held) → MatchOption o (new ≡ old) (λ held. new ≡ replaced block (f held) old) → IsTable limit n new
      by_case None same = rw same t
      by_case (Some held) changed =
          rw changed
          (record { short = omega (arith, t.short, length-replaced block (f held) old); apart = AreApart-replaced n block (f held) old t.apart })

-- the same on both sides
both_ways : {X : Type 0} (b : Bool) (x : X) → (if b then x else x) ≡ x
both_ways true x = refl
both_ways false x = refl

-- a client's table among the tables, as the code has it; m is what contracts see of them
pub record IsRow (m : Tables) (bank limit n : ℕ) (tables : List (List Entry)) (at client : ℕ) (old : List Entry) : Type 0 where
  pub view : tables_of bank limit n tables ≡ m
  pub at_client : at ≡ client
  pub inside : client < clients_of m
  pub row : old ≡ slice_index_or tables at old
  pub sound : All (λ t. IsTable limit n t) tables

module _ {m : Tables} {bank limit n : ℕ} {tables : List (List Entry)} {at client : ℕ} {old : List Entry}
    (r : IsRow m bank limit n tables at client old) where
  at_inside : at < length tables
  unfolding clients_of
  at_inside =
      let here : client < length tables = subst (λ (v : Tables). client < clients_of v) (sym r.view) r.inside in
      omega (arith, r.at_client)

  table_is : slice_index_or tables at [] ≡ old
  table_is = table_at tables at old at_inside r.row

  pub table_sound : IsTable limit n old
  table_sound = subst (λ (t : List Entry). IsTable limit n t) (sym r.row) (r.sound at old at_inside)

  -- what a client holds is what its table has
  held_at-row : (b : ℕ) → held_at m client b ≡ found b old
  unfolding held_at
  held_at-row b = rw (← r.view, ← r.at_client, table_is) refl

  -- ## A copy kept

  pub held_at-kept : (block : ℕ) (held : Held) (new : List Entry) → new ≡ kept block held old
      → (x y : ℕ)
      → held_at (tables_of bank limit n (slice_set tables at new)) x y
      ≡ (if is_cell client block x y then Some held else held_at m x y)
  held_at-kept block held new e x y =
      rw (← r.view, ← r.at_client)
      (held_at-set bank limit n tables at block old new (Some held) at_inside table_is
      (λ b. rw e (found-kept n block held old table_sound.apart b)) x y)

  pub order_in-kept : (block : ℕ) (held : Held) (new : List Entry) → new ≡ kept block held old
      → (x : ℕ)
      → order_in (tables_of bank limit n (slice_set tables at new)) x
      ≡ (if x == client then order_after (is_renewed_entry (held_at m client block) held) block (order_in m x) else order_in m x)
  order_in-kept block held new e x =
      rw (held_at-row block, ← r.view, ← r.at_client)
      (order_in-set bank limit n tables at old new (order_after (is_renewed_entry (found block old) held) block) at_inside table_is
      (rw e (order-kept block held old)) x)

  -- all tables stay sound
  pub sound-kept : {T E : Type 0} (result : Result T E) (block : ℕ) (held : Held) (new : List Entry)
      → OnOk result (new ≡ kept block held old) → OnErr result (new ≡ old) → (IsErr result ↔ IsFull limit block old)
      → block < m.blocks
      → All (λ t. IsTable limit n t) (slice_set tables at new)
  sound-kept result block held new e u f l =
      let inside : block < n = subst (λ (v : Tables). block < v.blocks) (sym r.view) l in
      All-set (λ t. IsTable limit n t) tables at new (kept_sound result limit n block held old new e u f table_sound inside) r.sound

  -- a copy is kept with the answer that is waited for
  pub kept-waiting : (block : ℕ) (wait : Awaited) (new : List Entry) → new ≡ kept block (waiting wait (found block old)) old
      → new ≡ kept block (waiting wait (held_at m client block)) old
  kept-waiting block wait new e = e ∙ ap (λ (o : Option Held). kept block (waiting wait o) old) (sym (held_at-row block))

  -- a new entry has room in the client's table where all tables say so
  pub room-row : (block : ℕ) → (held_at m client block ≡ None → entries m client < m.limit) → found block old ≡ None → length old < limit
  room-row block room none =
      let sound : IsTable m.limit m.blocks old = rw (← r.view) table_sound in
      let count : entries m client ≡ length old = entries-table m client old held_at-row sound in
      let most : limit ≡ m.limit = ap (λ (v : Tables). v.limit) r.view in
      let less = room (held_at-row block ∙ none) in
      omega (arith, less, count, most)

  -- the tables stay ones where a copy is kept for which there is room
  pub sound-roomy : (block : ℕ) (held : Held) (new : List Entry) → new ≡ kept block held old
      → (found block old ≡ None → length old < limit) → block < m.blocks
      → All (λ t. IsTable limit n t) (slice_set tables at new)
  sound-roomy block held new e room l =
      let inside : block < n = subst (λ (v : Tables). block < v.blocks) (sym r.view) l in
      All-set (λ t. IsTable limit n t) tables at new (rw e (IsTable-kept limit n block held old table_sound inside room)) r.sound

  -- full is what contracts call full
  pub full-is : (block : ℕ) (Refused : Type 0) → (Refused ↔ IsFull limit block old)
      → Refused ↔ ((held_at m client block ≡ None) × (m.limit ≤ entries m client))
  full-is block Refused f =
      let held : held_at m client block ≡ found block old = held_at-row block in
      let sound : IsTable m.limit m.blocks old = rw (← r.view) table_sound in
      let count : entries m client ≡ length old = entries-table m client old held_at-row sound in
      let most : limit ≡ m.limit = ap (λ (v : Tables). v.limit) r.view in
      rw (held, count, ← most) f

  -- ## A copy changed

  pub held_at-changed : (f : Held → Held) (block : ℕ) (new : List Entry) → IsChanged f block old new
      → (x y : ℕ)
      → held_at (tables_of bank limit n (slice_set tables at new)) x y
      ≡ (if is_cell client block x y then option_map f (held_at m client block) else held_at m x y)
  held_at-changed f block new change x y =
      rw (held_at-row block, ← r.view, ← r.at_client)
      (held_at-set bank limit n tables at block old new (option_map f (found block old)) at_inside table_is
      (found_changed f block old new change) x y)

  pub order_in-changed : (f : Held → Held) (block : ℕ) (new : List Entry) → IsChanged f block old new
      → (x : ℕ)
      → order_in (tables_of bank limit n (slice_set tables at new)) x ≡ order_in m x
  order_in-changed f block new change x =
      rw (← r.view)
      (order_in-set bank limit n tables at old new (λ order. order) at_inside table_is (blocks_changed f block old new change) x
      ∙ both_ways (x == at) (order_in (tables_of bank limit n tables) x))

  pub sound-changed : (f : Held → Held) (block : ℕ) (new : List Entry) → IsChanged f block old new
      → All (λ t. IsTable limit n t) (slice_set tables at new)
  sound-changed f block new change =
      All-set (λ t. IsTable limit n t) tables at new (sound_changed f block old new limit n change table_sound) r.sound

  -- ## An entry taken out

  pub held_at-without : (block : ℕ) (new : List Entry) → new ≡ without_entry block old
      → (x y : ℕ)
      → held_at (tables_of bank limit n (slice_set tables at new)) x y
      ≡ (if is_cell client block x y then None else held_at m x y)
  held_at-without block new e x y =
      rw (← r.view, ← r.at_client)
      (held_at-set bank limit n tables at block old new None at_inside table_is
      (λ b. rw e (found-without n block old table_sound.apart b)) x y)

  pub order_in-without : (block : ℕ) (new : List Entry) → new ≡ without_entry block old
      → (x : ℕ)
      → order_in (tables_of bank limit n (slice_set tables at new)) x
      ≡ (if x == client then order_without block (order_in m x) else order_in m x)
  order_in-without block new e x =
      rw (← r.view, ← r.at_client)
      (order_in-set bank limit n tables at old new (order_without block) at_inside table_is (rw e (order-without block old)) x)

  pub sound-without : (block : ℕ) (new : List Entry) → new ≡ without_entry block old
      → All (λ t. IsTable limit n t) (slice_set tables at new)
  sound-without block new e =
      All-set (λ t. IsTable limit n t) tables at new (rw e (IsTable-without limit n block old table_sound)) r.sound

-- the parts of it, as a call has them
pub row_of : {m : Tables} {bank limit n : ℕ} {tables : List (List Entry)} {at client : ℕ} {old : List Entry}
    → tables_of bank limit n tables ≡ m
    → at ≡ client → client < clients_of m → old ≡ slice_index_or tables at old → All (λ t. IsTable limit n t) tables
    → IsRow m bank limit n tables at client old
row_of v a i o s = record { view = v; at_client = a; inside = i; row = o; sound = s }
