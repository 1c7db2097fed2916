-- What a table counts is what the map has below the number of blocks, and its first copy is the order's.
use Rattle.std.proofs.Common.{◌≡◌, ◌≢◌, ℕ, ◌+◌, ◌==◌, Bool, true, false, List, [], ◌∷◌, length, Option, Some, None, is_some, if◌then◌else◌, refl, sym, ◌∙◌, ap, arith, count_by, ◌≤◌}
use Rattle.std.specs.List.{find, AllByRecursion}
use Rattle.std.proofs.lemmas.List.Sums.{sum_by-cons}
use Rattle.std.proofs.lemmas.Bool.Decides.{nat_tests}
use Rattle.std.proofs.lemmas.Bool.{ne_eqb}
use Rattle.tl_types.specs.Count.{count_below}
use Rattle.tl_types.proofs.Counts.{count_below-same, count_below-none, count_below-change}
use Rattle.tl_copies.specs.declared.held.Held.{Held}
use Rattle.tl_copies.specs.Held.{is_copy, has_copy}
use Rattle.tl_copies.specs.Entries.{Entry, found, oldest_in, AreApart, IsTable}
use Rattle.tl_copies.specs.Copies.{Tables, held_at, order_in, entries, copies}
use Rattle.tl_copies.proofs.EntryLaws.{blocks, not_first, same}

-- one if a test is met
abbrev pub one_if : Bool → ℕ
one_if passes = if passes then 1 else 0

-- the blocks that pass a test, which no missing entry passes, are as many as the entries that do
pub count_below-found : (test : Option Held → Bool) (n : ℕ) (es : List Entry) → test None ≡ false → AreApart n es
    → count_below (λ b. test (found b es)) n ≡ count_by (λ (e : Entry). test (Some e.held)) es
count_below-found test n [] none a = count_below-none (λ b. test (found b [])) n (λ k h. none)
count_below-found test n (e ∷ rest) none a =
    let gone : test (found e.block rest) ≡ false = ap test a.1 ∙ none in
    let agree : (k : ℕ) → k ≢ e.block → test (found k (e ∷ rest)) ≡ test (found k rest) = λ k d. rw (ne_eqb e.block k (λ same. d (sym same))) refl in
    let here : test (found e.block (e ∷ rest)) ≡ test (Some e.held) = rw (same e.block) refl in
    let one : count_below (λ b. test (found b (e ∷ rest))) n + one_if (test (found e.block rest))
    ≡ count_below (λ b. test (found b rest)) n + one_if (test (found e.block (e ∷ rest))) =
    count_below-change (λ b. test (found b (e ∷ rest))) (λ b. test (found b rest)) n e.block a.0 agree in
    let none_there : one_if (test (found e.block rest)) ≡ one_if false = ap one_if gone in
    let more : one_if (test (found e.block (e ∷ rest))) ≡ one_if (test (Some e.held)) = ap one_if here in
    omega (arith, one, none_there, more, count_below-found test n rest none a.2, sum_by-cons (λ (x : Entry). if test (Some x.held) then 1 else 0) e rest)

-- a test that every entry passes counts all entries
count_by-all : (es : List Entry) → count_by (λ (e : Entry). true) es ≡ length es
count_by-all [] = refl
count_by-all (e ∷ rest) = omega (arith, count_by-all rest, sum_by-cons (λ (x : Entry). if true then 1 else 0) e rest)

-- as many blocks have an entry as there are entries
pub entries-found : (n : ℕ) (es : List Entry) → AreApart n es → count_below (λ b. is_some (found b es)) n ≡ length es
entries-found n es a = count_below-found (λ o. is_some o) n es refl a ∙ count_by-all es

-- as many blocks have a copy as entries are copies
pub copies-found : (n : ℕ) (es : List Entry) → AreApart n es
    → count_below (λ b. has_copy (found b es)) n ≡ count_by (λ (e : Entry). is_copy e.held) es
copies-found n es a = count_below-found has_copy n es refl a

-- an entry adds at most one to a count
at_most_one : (v : Bool) → (if v then 1 else 0) ≤ 1
at_most_one true = omega arith
at_most_one false = omega arith

-- no more entries pass a test than there are
pub count_by-le : (test : Entry → Bool) (es : List Entry) → count_by test es ≤ length es
count_by-le test [] = omega arith
count_by-le test (e ∷ rest) =
    omega (arith, sum_by-cons (λ (x : Entry). if test x then 1 else 0) e rest, at_most_one (test e), count_by-le test rest)

-- tests that agree on a list find the same
find-agree : (p q : ℕ → Bool) (xs : List ℕ) → AllByRecursion (λ x. p x ≡ q x) xs → find p xs ≡ find q xs
find-agree p q [] a = refl
find-agree p q (x ∷ rest) a = rw (a.0, find-agree p q rest a.1) refl

-- a block that is not found ne_eqb from each of the table's
none_of : (block : ℕ) (held : Held) (es whole : List Entry) → found block es ≡ None
    → AllByRecursion (λ x. has_copy (if block == x then Some held else found x whole) ≡ has_copy (found x whole)) (blocks es)
none_of block held [] whole n = tt
none_of block held (e ∷ rest) whole n =
    let p = not_first (e.block == block) e.held (found block rest) n in
    let other : (block == e.block) ≡ false = grind (arith, nat_tests, p.0) in
    (rw other refl, none_of block held rest whole p.1)

-- the first copy of a table is the first block of the order that has a copy
pub find-oldest : (n : ℕ) (es : List Entry) → AreApart n es → find (λ b. has_copy (found b es)) (blocks es) ≡ oldest_in es
find-oldest n [] a = refl
find-oldest n (e ∷ rest) a =
    let here : (e.block == e.block) ≡ true = same e.block in
    let later : find (λ b. has_copy (found b (e ∷ rest))) (blocks rest) ≡ oldest_in rest =
    find-agree (λ b. has_copy (found b (e ∷ rest))) (λ b. has_copy (found b rest)) (blocks rest) (none_of e.block e.held rest rest a.1) ∙ find-oldest n rest a.2 in
    rw (here, later) refl

-- ## What a client's table says of the map

-- what holds of everything holds of each in a list
all_of : {X : Type 0} (P : X → Type 0) (xs : List X) → ((x : X) → P x) → AllByRecursion P xs
all_of P [] h = tt
all_of P (x ∷ rest) h = (h x, all_of P rest h)

-- the map counts as many entries of the client as its table has
pub entries-table : (v : Tables) (client : ℕ) (table : List Entry) → ((b : ℕ) → held_at v client b ≡ found b table)
    → IsTable v.limit v.blocks table
    → entries v client ≡ length table
entries-table v client table h t =
    count_below-same (λ b. is_some (held_at v client b)) (λ b. is_some (found b table)) v.blocks (λ b l. ap is_some (h b)) ∙ entries-found v.blocks table t.apart

-- and as many copies as the table has entries that are copies
pub copies-table : (v : Tables) (client : ℕ) (table : List Entry) → ((b : ℕ) → held_at v client b ≡ found b table)
    → IsTable v.limit v.blocks table
    → copies v client ≡ count_by (λ (e : Entry). is_copy e.held) table
copies-table v client table h t =
    count_below-same (λ b. has_copy (held_at v client b)) (λ b. has_copy (found b table)) v.blocks (λ b l. ap has_copy (h b)) ∙ copies-found v.blocks table t.apart

-- and the first block of its order that has a copy is that of the table's first copy
pub oldest-table : (v : Tables) (client : ℕ) (table : List Entry) → ((b : ℕ) → held_at v client b ≡ found b table)
    → order_in v client ≡ blocks table
    → IsTable v.limit v.blocks table → find (λ b. has_copy (held_at v client b)) (order_in v client) ≡ oldest_in table
oldest-table v client table h o t =
    ap (λ (xs : List ℕ). find (λ b. has_copy (held_at v client b)) xs) o
    ∙ find-agree (λ b. has_copy (held_at v client b)) (λ b. has_copy (found b table)) (blocks table) (all_of (λ b. has_copy (held_at v client b) ≡ has_copy (found b table)) (blocks table) (λ b. ap has_copy (h b)))
    ∙ find-oldest v.blocks table t.apart
