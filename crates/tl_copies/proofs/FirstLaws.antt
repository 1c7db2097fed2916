-- What a table has of the block of its first copy, and of all blocks where no entry passes a test.
use Rattle.std.proofs.Common.{◌≡◌, ℕ, ◌+◌, ◌<◌, ◌==◌, ◌&&◌, not, Bool, true, false, List, [], ◌∷◌, Option, Some, None, if◌then◌else◌, length, drop, slice_index_or, refl, sym, ◌∙◌, ap, subst, eqb-true}
use Rattle.std.specs.List.{find, list_all}
use Rattle.std.proofs.lemmas.List.{drop_more}
use Rattle.tl_copies.specs.declared.held.Held.{Held}
use Rattle.tl_copies.specs.Held.{is_copy, has_copy, waits, is_awaited}
use Rattle.tl_copies.specs.Entries.{Entry, found, oldest_in, AreApart}
use Rattle.tl_copies.proofs.EntryLaws.{same}

-- what is found in a table whose first entry is of the block, or not
found-first : (here : Bool) (held : Held) (rest : Option Held) (test : Option Held → Bool) → test (Some held) ≡ false → test rest ≡ false
    → test (if here then Some held else rest) ≡ false
found-first true held rest test first later = first
found-first false held rest test first later = later

-- a block that has an entry, the first or a later one, is of the memory
first-inside : (here : Bool) (n b block : ℕ) (first held : Held) (rest : Option Held) → (block == b) ≡ here → block < n
    → (rest ≡ Some held → b < n) → (if here then Some first else rest) ≡ Some held → b < n
first-inside true n b block first held rest h l later f = subst (λ x. x < n) (eqb-true block b h) l
first-inside false n b block first held rest h l later f = later f

-- a block that has an entry is of the memory
pub found-inside : (n b : ℕ) (es : List Entry) (held : Held) → AreApart n es → found b es ≡ Some held → b < n
found-inside n b [] held a f = cc
found-inside n b (e ∷ rest) held a f =
    first-inside (e.block == b) n b e.block e.held held (found b rest) refl a.0 (λ g. found-inside n b rest held a.2 g) f

-- ## The first copy

-- a copy is an entry
copy-inside : (n b : ℕ) (es : List Entry) (o : Option Held) → AreApart n es → found b es ≡ o → has_copy o ≡ true → b < n
copy-inside n b es None a f h = cc
copy-inside n b es (Some held) a f h = found-inside n b es held a f

-- the block of a copy is of the memory
pub has_copy-inside : (n b : ℕ) (es : List Entry) → AreApart n es → has_copy (found b es) ≡ true → b < n
has_copy-inside n b es a h = copy-inside n b es (found b es) a refl h

-- where no entry is a copy, neither is the first
first-none : (copy : Bool) (block : ℕ) (rest : Option ℕ) → (if copy then Some block else rest) ≡ None → (copy ≡ false) × (rest ≡ None)
first-none true block rest h = cc
first-none false block rest h = (refl, h)

-- where no entry is a copy no block has one
pub oldest-none : (es : List Entry) → oldest_in es ≡ None → (b : ℕ) → has_copy (found b es) ≡ false
oldest-none [] h b = refl
oldest-none (e ∷ rest) h b =
    let both = first-none (is_copy e.held) e.block (oldest_in rest) h in
    found-first (e.block == b) e.held (found b rest) has_copy both.0 (oldest-none rest both.1 b)

-- the first of the entries from a place on is the one there, where it is a copy
pub oldest-here : (es : List Entry) (place : ℕ) (d : Entry) → place < length es → is_copy (slice_index_or es place d).held ≡ true
    → oldest_in (drop place es) ≡ Some (slice_index_or es place d).block
oldest-here es place d l h = rw (drop_more es place d l, h) refl

-- and else the first of the later ones
pub oldest-later : (es : List Entry) (place : ℕ) (d : Entry) → place < length es → is_copy (slice_index_or es place d).held ≡ false
    → oldest_in (drop place es) ≡ oldest_in (drop (place + 1) es)
oldest-later es place d l h = rw (drop_more es place d l, h) refl

-- what is found passes the test
found-passes : (test : ℕ → Bool) (x b : ℕ) (passes : Bool) (rest : Option ℕ) → test x ≡ passes → (rest ≡ Some b → test b ≡ true)
    → (if passes then Some x else rest) ≡ Some b → test b ≡ true
found-passes test x b true rest p later h = let e : x ≡ b = cc in subst (λ y. test y ≡ true) e p
found-passes test x b false rest p later h = later h

-- the first that passes a test does
pub find-passes : (test : ℕ → Bool) (xs : List ℕ) (b : ℕ) → find test xs ≡ Some b → test b ≡ true
find-passes test [] b h = cc
find-passes test (x ∷ rest) b h = found-passes test x b (test x) (find test rest) refl (find-passes test rest b) h

-- ## Answers

-- where the entry at a place fails a test, not all from there on pass
pub fails-here : (test : Entry → Bool) (es : List Entry) (place : ℕ) (d : Entry) → place < length es → test (slice_index_or es place d) ≡ false
    → list_all test (drop place es) ≡ false
fails-here test es place d l h = rw (drop_more es place d l, h) refl

-- and where it passes, all do if the later ones do
pub passes-here : (test : Entry → Bool) (es : List Entry) (place : ℕ) (d : Entry) → place < length es → test (slice_index_or es place d) ≡ true
    → list_all test (drop place es) ≡ list_all test (drop (place + 1) es)
passes-here test es place d l h = rw (drop_more es place d l, h) refl

-- both of two tests
both_true : (a b : Bool) → (a && b) ≡ true → (a ≡ true) × (b ≡ true)
both_true true b h = (refl, h)
both_true false b h = cc

-- what is not so is false
not_true : (t : Bool) → not t ≡ true → t ≡ false
not_true true h = cc
not_true false h = refl

-- where no entry waits the client waits for nothing of any block
pub awaits-none : (es : List Entry) → list_all (λ (e : Entry). not (waits e.held.wait)) es ≡ true → (b : ℕ) → is_awaited (found b es) ≡ false
awaits-none [] h b = refl
awaits-none (e ∷ rest) h b =
    let both = both_true (not (waits e.held.wait)) (list_all (λ (e : Entry). not (waits e.held.wait)) rest) h in
    found-first (e.block == b) e.held (found b rest) is_awaited (not_true (waits e.held.wait) both.0) (awaits-none rest both.1 b)

-- a block without a waiting entry has none among the later ones either
later-none : (here : Bool) (b block : ℕ) (first : Held) (rest : List Entry) → (block == b) ≡ here → found block rest ≡ None
    → is_awaited (if here then Some first else found b rest) ≡ false → is_awaited (found b rest) ≡ false
later-none true b block first rest h gone f =
    let none : found b rest ≡ None = subst (λ x. found x rest ≡ None) (eqb-true block b h) gone in ap is_awaited none
later-none false b block first rest h gone f = f

-- and where of no block it waits for an answer, no entry waits
pub none-awaits : (n : ℕ) (es : List Entry) → AreApart n es → ((b : ℕ) → b < n → is_awaited (found b es) ≡ false)
    → list_all (λ (e : Entry). not (waits e.held.wait)) es ≡ true
none-awaits n [] a h = refl
none-awaits n (e ∷ rest) a h =
    let first : waits e.held.wait ≡ false =
    ap (λ (t : Bool). is_awaited (if t then Some e.held else found e.block rest)) (sym (same e.block)) ∙ h e.block a.0 in
    let later = none-awaits n rest a.2 (λ b l. later-none (e.block == b) b e.block e.held rest refl a.1 (h b l)) in
    rw (first, later) refl
