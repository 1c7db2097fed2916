-- What a table has of each block after an entry is put last, taken out, or changed.
use Rattle.std.proofs.Common.{◌≡◌, ℕ, ◌+◌, ◌<◌, ◌≤◌, ◌==◌, Bool, true, false, List, [], ◌∷◌, ◌++◌, length, map, Option, Some, None, if◌then◌else◌, refl, sym, ◌∙◌, ap, subst, arith, eqb-true, eq-eqb, length-append}
use Rattle.std.proofs.lemmas.Bool.Decides.{nat_tests}
use Rattle.std.proofs.lemmas.List.{map-append}
use Rattle.tl_copies.specs.declared.held.Held.{Held}
use Rattle.tl_copies.specs.Held.{is_renewed_entry}
use Rattle.tl_copies.specs.Entries.{Entry, found, without_entry, replaced, kept, AreApart, IsTable}
use Rattle.tl_copies.specs.Copies.{order_without, order_after}

-- an entry of a block
abbrev pub entry : ℕ → Held → Entry
entry block held = record { block = block; held = held }

-- a block that is not found is not that of the first entry, and not found in the rest
pub not_first : (here : Bool) (held : Held) (rest : Option Held) → (if here then Some held else rest) ≡ None
    → (here ≡ false) × (rest ≡ None)
not_first true held rest h = cc
not_first false held rest h = (refl, h)

-- blocks that differ do so either way round
pub flipped : (a b : ℕ) → (a == b) ≡ false → (b == a) ≡ false
flipped a b h = grind (arith, nat_tests)

-- a block is itself
pub same : (a : ℕ) → (a == a) ≡ true
same a = eq-eqb a a refl

-- ## An entry put last

-- an entry put last leaves what the table has of another block
pub found-append_other : (b : ℕ) (x : Entry) (es : List Entry) → (x.block == b) ≡ false → found b (es ++ x ∷ []) ≡ found b es
found-append_other b x [] o = rw o refl
found-append_other b x (e ∷ rest) o = rw (found-append_other b x rest o) refl

-- and is what the table then has of its own block, where it had nothing
pub found-append_here : (x : Entry) (es : List Entry) → found x.block es ≡ None → found x.block (es ++ x ∷ []) ≡ Some x.held
found-append_here x [] n = rw (same x.block) refl
found-append_here x (e ∷ rest) n =
    let p = not_first (e.block == x.block) e.held (found x.block rest) n in
    rw (p.0) (found-append_here x rest p.1)

-- the blocks stay apart where an entry is put last of a block of the memory that had none
pub AreApart-append : (n : ℕ) (x : Entry) (es : List Entry) → AreApart n es → found x.block es ≡ None → x.block < n
    → AreApart n (es ++ x ∷ [])
AreApart-append n x [] a f l = (l, refl, tt)
AreApart-append n x (e ∷ rest) a f l =
    let p = not_first (e.block == x.block) e.held (found x.block rest) f in
    (a.0, found-append_other e.block x rest (flipped e.block x.block p.0) ∙ a.1, AreApart-append n x rest a.2 p.1 l)

-- ## An entry taken out

-- where a block's entry is taken out, the first or a later one, what the table has of another block stays
out_other : (here : Bool) (block b : ℕ) (e : Entry) (rest : List Entry) → (e.block == block) ≡ here → (block == b) ≡ false
    → found b (without_entry block rest) ≡ found b rest
    → found b (if here then rest else e ∷ without_entry block rest) ≡ (if e.block == b then Some e.held else found b rest)
out_other true block b e rest h o ih =
    let other : (e.block == b) ≡ false = rw (eqb-true e.block block h) o in
    rw other refl
out_other false block b e rest h o ih = rw ih refl

-- what the table has of another block stays where an entry is taken out
pub found-without_other : (block b : ℕ) (es : List Entry) → (block == b) ≡ false → found b (without_entry block es) ≡ found b es
found-without_other block b [] o = refl
found-without_other block b (e ∷ rest) o = out_other (e.block == block) block b e rest refl o (found-without_other block b rest o)

-- a block without an entry has none either where one is taken out, the first or a later one
out_none : (here : Bool) (block b : ℕ) (e : Entry) (rest : List Entry) → (e.block == b) ≡ false → found b rest ≡ None
    → found b (without_entry block rest) ≡ None → found b (if here then rest else e ∷ without_entry block rest) ≡ None
out_none true block b e rest o n ih = n
out_none false block b e rest o n ih = rw o ih

-- a block without an entry has none either after one is taken out
pub found-without_none : (block b : ℕ) (es : List Entry) → found b es ≡ None → found b (without_entry block es) ≡ None
found-without_none block b [] n = refl
found-without_none block b (e ∷ rest) n =
    let p = not_first (e.block == b) e.held (found b rest) n in
    out_none (e.block == block) block b e rest p.0 p.1 (found-without_none block b rest p.1)

-- a block is not found any more where its entry is taken out, the first or a later one
out_here : (here : Bool) (block : ℕ) (e : Entry) (rest : List Entry) → (e.block == block) ≡ here → found e.block rest ≡ None
    → found block (without_entry block rest) ≡ None → found block (if here then rest else e ∷ without_entry block rest) ≡ None
out_here true block e rest h n ih = subst (λ b. found b rest ≡ None) (eqb-true e.block block h) n
out_here false block e rest h n ih = rw h ih

-- what is taken out is gone
pub found-without_here : (n block : ℕ) (es : List Entry) → AreApart n es → found block (without_entry block es) ≡ None
found-without_here n block [] a = refl
found-without_here n block (e ∷ rest) a = out_here (e.block == block) block e rest refl a.1 (found-without_here n block rest a.2)

-- the blocks stay apart where an entry is taken out, the first or a later one
out_apart : (here : Bool) (n block : ℕ) (e : Entry) (rest : List Entry) → AreApart n (e ∷ rest) → AreApart n (without_entry block rest)
    → AreApart n (if here then rest else e ∷ without_entry block rest)
out_apart true n block e rest a ih = a.2
out_apart false n block e rest a ih = (a.0, found-without_none block e.block rest a.1, ih)

-- the blocks stay apart where an entry is taken out
pub AreApart-without : (n block : ℕ) (es : List Entry) → AreApart n es → AreApart n (without_entry block es)
AreApart-without n block [] a = tt
AreApart-without n block (e ∷ rest) a = out_apart (e.block == block) n block e rest a (AreApart-without n block rest a.2)

-- a table gets no longer where an entry is taken out, the first or a later one
out_shorter : (here : Bool) (block : ℕ) (e : Entry) (rest : List Entry) → length (without_entry block rest) ≤ length rest
    → length (if here then rest else e ∷ without_entry block rest) ≤ length (e ∷ rest)
out_shorter true block e rest ih = omega arith
out_shorter false block e rest ih = omega arith

-- a table gets no longer where an entry is taken out
pub length-without : (block : ℕ) (es : List Entry) → length (without_entry block es) ≤ length es
length-without block [] = omega arith
length-without block (e ∷ rest) = out_shorter (e.block == block) block e rest (length-without block rest)

-- where the block is found, taking its entry out, the first or a later one, leaves one entry less
out_one : (here : Bool) (block : ℕ) (e : Entry) (rest : List Entry) (old : Held)
    → (if here then Some e.held else found block rest) ≡ Some old
    → (found block rest ≡ Some old → length (without_entry block rest) + 1 ≡ length rest)
    → length (if here then rest else e ∷ without_entry block rest) + 1 ≡ length (e ∷ rest)
out_one true block e rest old f ih = omega arith
out_one false block e rest old f ih = omega (arith, ih f)

-- one entry less where there was one
pub length-without_found : (block : ℕ) (es : List Entry) (old : Held) → found block es ≡ Some old
    → length (without_entry block es) + 1 ≡ length es
length-without_found block [] old f = cc
length-without_found block (e ∷ rest) old f =
    out_one (e.block == block) block e rest old f (length-without_found block rest old)

-- ## An entry changed

-- where a block's entry is changed, the first or a later one, what the table has of another block stays
new_other : (here : Bool) (block b : ℕ) (held : Held) (e : Entry) (rest : List Entry) → (e.block == block) ≡ here
    → (block == b) ≡ false
    → found b (replaced block held rest) ≡ found b rest
    → found b (if here then entry block held ∷ rest else e ∷ replaced block held rest) ≡ (if e.block == b then Some e.held else found b rest)
new_other true block b held e rest h o ih =
    let other : (e.block == b) ≡ false = rw (eqb-true e.block block h) o in
    rw (o, other) refl
new_other false block b held e rest h o ih = rw ih refl

-- what the table has of another block stays where an entry is changed
pub found-replaced_other : (block b : ℕ) (held : Held) (es : List Entry) → (block == b) ≡ false
    → found b (replaced block held es) ≡ found b es
found-replaced_other block b held [] o = refl
found-replaced_other block b held (e ∷ rest) o =
    new_other (e.block == block) block b held e rest refl o (found-replaced_other block b held rest o)

-- a block that is found has the new copy where its entry is changed, the first or a later one
new_here : (here : Bool) (block : ℕ) (held old : Held) (e : Entry) (rest : List Entry) → (e.block == block) ≡ here
    → (if here then Some e.held else found block rest) ≡ Some old
    → (found block rest ≡ Some old → found block (replaced block held rest) ≡ Some held)
    → found block (if here then entry block held ∷ rest else e ∷ replaced block held rest) ≡ Some held
new_here true block held old e rest h f ih = rw (same block) refl
new_here false block held old e rest h f ih = rw h (ih f)

-- a block that has an entry has the new copy once it is changed
pub found-replaced_here : (block : ℕ) (held old : Held) (es : List Entry) → found block es ≡ Some old
    → found block (replaced block held es) ≡ Some held
found-replaced_here block held old [] f = cc
found-replaced_here block held old (e ∷ rest) f =
    new_here (e.block == block) block held old e rest refl f (found-replaced_here block held old rest)

-- a block without an entry has none either where one is changed, the first or a later one
new_none : (here : Bool) (block b : ℕ) (held : Held) (e : Entry) (rest : List Entry) → (e.block == block) ≡ here
    → (e.block == b) ≡ false → found b rest ≡ None
    → found b (replaced block held rest) ≡ None
    → found b (if here then entry block held ∷ rest else e ∷ replaced block held rest) ≡ None
new_none true block b held e rest h o n ih =
    let other : (block == b) ≡ false = rw (← eqb-true e.block block h) o in
    rw other n
new_none false block b held e rest h o n ih = rw o ih

-- a block without an entry has none either after one is changed
pub found-replaced_none : (block b : ℕ) (held : Held) (es : List Entry) → found b es ≡ None
    → found b (replaced block held es) ≡ None
found-replaced_none block b held [] n = refl
found-replaced_none block b held (e ∷ rest) n =
    let p = not_first (e.block == b) e.held (found b rest) n in
    new_none (e.block == block) block b held e rest refl p.0 p.1 (found-replaced_none block b held rest p.1)

-- the blocks stay apart where an entry is changed, the first or a later one
new_apart : (here : Bool) (n block : ℕ) (held : Held) (e : Entry) (rest : List Entry) → (e.block == block) ≡ here
    → AreApart n (e ∷ rest)
    → AreApart n (replaced block held rest) → AreApart n (if here then entry block held ∷ rest else e ∷ replaced block held rest)
new_apart true n block held e rest h a ih =
    let is : e.block ≡ block = eqb-true e.block block h in
    (subst (λ b. b < n) is a.0, subst (λ b. found b rest ≡ None) is a.1, a.2)
new_apart false n block held e rest h a ih = (a.0, found-replaced_none block e.block held rest a.1, ih)

-- the blocks stay apart where an entry is changed
pub AreApart-replaced : (n block : ℕ) (held : Held) (es : List Entry) → AreApart n es → AreApart n (replaced block held es)
AreApart-replaced n block held [] a = tt
AreApart-replaced n block held (e ∷ rest) a =
    new_apart (e.block == block) n block held e rest refl a (AreApart-replaced n block held rest a.2)

-- a table stays as long as it is where an entry is changed, the first or a later one
new_length : (here : Bool) (block : ℕ) (held : Held) (e : Entry) (rest : List Entry)
    → length (replaced block held rest) ≡ length rest
    → length (if here then entry block held ∷ rest else e ∷ replaced block held rest) ≡ length (e ∷ rest)
new_length true block held e rest ih = omega arith
new_length false block held e rest ih = omega arith

-- a table stays as long as it is where an entry is changed
pub length-replaced : (block : ℕ) (held : Held) (es : List Entry) → length (replaced block held es) ≡ length es
length-replaced block held [] = refl
length-replaced block held (e ∷ rest) = new_length (e.block == block) block held e rest (length-replaced block held rest)

-- ## A copy kept

-- a kept copy, put last or in its entry's place, is what the table then has of its block
kept_is : (granted : Bool) (n block b : ℕ) (held : Held) (es : List Entry) → is_renewed_entry (found block es) held ≡ granted
    → AreApart n es → (b == block) ≡ true
    → found b (if granted then without_entry block es ++ entry block held ∷ [] else replaced block held es) ≡ Some held
kept_is true n block b held es g a h =
    rw (eqb-true b block h) (found-append_here (entry block held) (without_entry block es) (found-without_here n block es a))
kept_is false n block b held es g a h = rw (eqb-true b block h) (old_one (found block es) refl)
  where
    old_one : (old : Option Held) → found block es ≡ old → found block (replaced block held es) ≡ Some held
    old_one None f = let is : is_renewed_entry None held ≡ false = rw f at g in cc
    old_one (Some old) f = found-replaced_here block held old es f

-- a kept copy, put last or in its entry's place, leaves what the table has of another block
kept_other : (granted : Bool) (block b : ℕ) (held : Held) (es : List Entry) → (b == block) ≡ false
    → found b (if granted then without_entry block es ++ entry block held ∷ [] else replaced block held es) ≡ found b es
kept_other true block b held es o =
    found-append_other b (entry block held) (without_entry block es) (flipped b block o) ∙ found-without_other block b es (flipped b block o)
kept_other false block b held es o = found-replaced_other block b held es (flipped b block o)

-- a kept copy is the block's, and no other block's
pub found-kept : (n block : ℕ) (held : Held) (es : List Entry) → AreApart n es → (b : ℕ)
    → found b (kept block held es) ≡ (if b == block then Some held else found b es)
found-kept n block held es a b = by_test (b == block) refl
  where
    by_test : (here : Bool) → (b == block) ≡ here → found b (kept block held es) ≡ (if here then Some held else found b es)
    by_test true h = kept_is (is_renewed_entry (found block es) held) n block b held es refl a h
    by_test false h = kept_other (is_renewed_entry (found block es) held) block b held es h

-- the blocks stay apart where a copy of a block of the memory is put last or in its entry's place
kept_apart : (granted : Bool) (n block : ℕ) (held : Held) (es : List Entry) → AreApart n es → block < n
    → AreApart n (if granted then without_entry block es ++ entry block held ∷ [] else replaced block held es)
kept_apart true n block held es a l =
    AreApart-append n (entry block held) (without_entry block es) (AreApart-without n block es a) (found-without_here n block es a) l
kept_apart false n block held es a l = AreApart-replaced n block held es a

-- a table that has room for a new entry stays within its limit where a copy is put last or in its entry's place
kept_length : (granted : Bool) (limit block : ℕ) (held : Held) (es : List Entry) (old : Option Held) → found block es ≡ old
    → length es ≤ limit
    → (old ≡ None → length es < limit)
    → length (if granted then without_entry block es ++ entry block held ∷ [] else replaced block held es) ≤ limit
kept_length true limit block held es None f l r =
    omega (arith, length-append (without_entry block es) (entry block held ∷ []), length-without block es, r refl)
kept_length true limit block held es (Some old) f l r =
    omega (arith, length-append (without_entry block es) (entry block held ∷ []), length-without_found block es old f)
kept_length false limit block held es old f l r = omega (arith, length-replaced block held es)

-- a table stays one where it has room for a new entry
pub IsTable-kept : (limit n block : ℕ) (held : Held) (es : List Entry) → IsTable limit n es → block < n
    → (found block es ≡ None → length es < limit)
    → IsTable limit n (kept block held es)
IsTable-kept limit n block held es t l r = record {
  short = kept_length (is_renewed_entry (found block es) held) limit block held es (found block es) refl t.short r;
  apart = kept_apart (is_renewed_entry (found block es) held) n block held es t.apart l;
}

-- and it stays one where an entry is taken out
pub IsTable-without : (limit n block : ℕ) (es : List Entry) → IsTable limit n es → IsTable limit n (without_entry block es)
IsTable-without limit n block es t = record {
  short = omega (arith, t.short, length-without block es);
  apart = AreApart-without n block es t.apart;
}

-- nothing else changes where an entry is taken out
pub found-without : (n block : ℕ) (es : List Entry) → AreApart n es → (b : ℕ)
    → found b (without_entry block es) ≡ (if b == block then None else found b es)
found-without n block es a b = by_test (b == block) refl
  where
    by_test : (here : Bool) → (b == block) ≡ here → found b (without_entry block es) ≡ (if here then None else found b es)
    by_test true h = rw (eqb-true b block h) (found-without_here n block es a)
    by_test false h = found-without_other block b es (flipped b block h)

-- ## The order of age

-- the blocks of a table, the one granted longest ago first
abbrev pub blocks : List Entry → List ℕ
blocks es = map (λ (e : Entry). e.block) es

-- an entry taken out, the first or a later one, takes its block out of the order
out_order : (here : Bool) (block : ℕ) (e : Entry) (rest : List Entry)
    → blocks (without_entry block rest) ≡ order_without block (blocks rest)
    → blocks (if here then rest else e ∷ without_entry block rest) ≡ (if here then blocks rest else e.block ∷ order_without block (blocks rest))
out_order true block e rest ih = refl
out_order false block e rest ih = rw ih refl

-- an entry taken out takes its block out of the order
pub order-without : (block : ℕ) (es : List Entry) → blocks (without_entry block es) ≡ order_without block (blocks es)
order-without block [] = refl
order-without block (e ∷ rest) = out_order (e.block == block) block e rest (order-without block rest)

-- an entry changed, the first or a later one, leaves the order
new_order : (here : Bool) (block : ℕ) (held : Held) (e : Entry) (rest : List Entry) → (e.block == block) ≡ here
    → blocks (replaced block held rest) ≡ blocks rest
    → blocks (if here then entry block held ∷ rest else e ∷ replaced block held rest) ≡ blocks (e ∷ rest)
new_order true block held e rest h ih = ap (λ b. b ∷ blocks rest) (sym (eqb-true e.block block h))
new_order false block held e rest h ih = rw ih refl

-- a changed entry leaves the order
pub order-replaced : (block : ℕ) (held : Held) (es : List Entry) → blocks (replaced block held es) ≡ blocks es
order-replaced block held [] = refl
order-replaced block held (e ∷ rest) = new_order (e.block == block) block held e rest refl (order-replaced block held rest)

-- a copy put last moves its block to the end of the order, and one put in its entry's place leaves the order
kept_order : (granted : Bool) (block : ℕ) (held : Held) (es : List Entry)
    → blocks (if granted then without_entry block es ++ entry block held ∷ [] else replaced block held es) ≡ order_after granted block (blocks es)
kept_order true block held es =
    map-append (λ (e : Entry). e.block) (without_entry block es) (entry block held ∷ [])
    ∙ ap (λ (xs : List ℕ). xs ++ block ∷ []) (order-without block es)
kept_order false block held es = order-replaced block held es

-- a kept copy moves its block to the end of the order if its entry is new or its Grant came, and else leaves the order
pub order-kept : (block : ℕ) (held : Held) (es : List Entry)
    → blocks (kept block held es) ≡ order_after (is_renewed_entry (found block es) held) block (blocks es)
order-kept block held es = kept_order (is_renewed_entry (found block es) held) block held es
