-- The bytes of accesses, by client and index.
use Rattle.std.proofs.Common.{◌≡◌, ℕ, zero, suc, ◌+◌, ◌<◌, ◌≤◌, ⊎_elim, true, false, cond, ◌==◌, List, [], ◌∷◌, ◌++◌, length, get_or, set, slice_get, drop, All, Option, Some, None, refl, sym, ap, ◌∙◌, subst, arith}
use Rattle.std.specs.Borrow.{Bor}
use Rattle.std.specs.List.{cons_option}
use Rattle.std.proofs.Math.ListN.{length-set}
use Rattle.std.proofs.lemmas.Bool.{false≢true, cases_Bool, cond_both, cond-true, cond-false, eqb-true, eq-eqb}
use Rattle.std.proofs.lemmas.List.{drop_more, drop_all, get_or-set_other}
use Rattle.std.proofs.lemmas.List.Elements.{All-nil, All-cons, All-head, All-tail}
use Rattle.tl_protocol.specs.declared.event.Access.{Access}
use Rattle.tl_protocol.specs.declared.event.Event.{Event}
use Rattle.tl_protocol.specs.OneMemory.{access_of}
use Rattle.tl_rules.specs.Certified.{accesses_of, all_accesses, events_of}
use Rattle.tl_rules.specs.Left.{Pairwise}
use Rattle.tl_rules.proofs.Cursors.{read_log, length_logs}
use Rattle.tl_runner_report.specs.Loops.{AreDistinct, with_access, with_accesses, with_event}

-- ## The bytes of one client

-- a client's bytes by index, once those of an access stand at its index, if it is the client's
abbrev pub written : ℕ → List (List ℕ) → Access → List (List ℕ)
written client table a = cond (a.client == client) (set table a.index a.bytes) table

length_written : (client : ℕ) (table : List (List ℕ)) (a : Access) → length (written client table a) ≡ length table
length_written client table a =
    cond_both (a.client == client) (set table a.index a.bytes) table (λ (t : List (List ℕ)). length t ≡ length table)
    (λ _. length-set table a.index a.bytes) (λ _. refl)

-- the same of several accesses, one after the other
abbrev pub filled : ℕ → List (List ℕ) → List Access → List (List ℕ)
filled client table [] = table
filled client table (a ∷ xs) = filled client (written client table a) xs

pub length_filled : (client : ℕ) (table : List (List ℕ)) (xs : List Access) → length (filled client table xs) ≡ length table
length_filled client table [] = refl
length_filled client table (a ∷ xs) = length_filled client (written client table a) xs ∙ length_written client table a

slice_set_other : (table : List (List ℕ)) (i k : ℕ) (bytes : List ℕ) → (k ≡ i → ⊥) → slice_get (set table i bytes) k ≡ slice_get table k
slice_set_other [] i k bytes n = refl
slice_set_other (t ∷ ts) zero zero bytes n = absurd (n refl)
slice_set_other (t ∷ ts) zero (suc k) bytes n = refl
slice_set_other (t ∷ ts) (suc i) zero bytes n = refl
slice_set_other (t ∷ ts) (suc i) (suc k) bytes n = slice_set_other ts i k bytes (λ e. n (ap suc e))

slice_set_same : (table : List (List ℕ)) (i : ℕ) (bytes : List ℕ) → i < length table → slice_get (set table i bytes) i ≡ Some bytes
slice_set_same [] i bytes lt = absurd (omega arith)
slice_set_same (t ∷ ts) zero bytes lt = refl
slice_set_same (t ∷ ts) (suc i) bytes lt = slice_set_same ts i bytes (omega arith)

-- an index that none of them has
pub filled_other : (client : ℕ) (table : List (List ℕ)) (xs : List Access) (i : ℕ)
    → All (λ (a : Access). a.client ≡ client → a.index ≡ i → ⊥) xs → slice_get (filled client table xs) i ≡ slice_get table i
filled_other client table [] i h = refl
filled_other client table (a ∷ xs) i h =
    filled_other client (written client table a) xs i (All-tail (λ (b : Access). b.client ≡ client → b.index ≡ i → ⊥) a xs h)
    ∙ cond_both (a.client == client) (set table a.index a.bytes) table (λ (t : List (List ℕ)). slice_get t i ≡ slice_get table i)
    (λ q. slice_set_other table a.index i a.bytes
    (λ e. All-head (λ (b : Access). b.client ≡ client → b.index ≡ i → ⊥) a xs h (eqb-true a.client client q) (sym e)))
    (λ _. refl)

-- the index of one of them
pub filled_at : (client : ℕ) (table : List (List ℕ)) (xs : List Access) → Pairwise AreDistinct xs
    → All (λ (a : Access). a.client ≡ client → a.index < length table) xs
    → All (λ (a : Access). a.client ≡ client → slice_get (filled client table xs) a.index ≡ Some a.bytes) xs
filled_at client table [] p h = All-nil (λ (a : Access). a.client ≡ client → slice_get (filled client table []) a.index ≡ Some a.bytes)
filled_at client table (x ∷ xs) p h =
    let next = written client table x in
    All-cons (λ (a : Access). a.client ≡ client → slice_get (filled client next xs) a.index ≡ Some a.bytes) x xs
    (λ own.
    filled_other client next xs x.index
    (λ k d l there same. p.0 k d l (own ∙ sym there) (sym same))
    ∙ (ap (λ (t : List (List ℕ)). slice_get t x.index) (cond-true (x.client == client) (set table x.index x.bytes) table (eq-eqb x.client client own))
    ∙ slice_set_same table x.index x.bytes (All-head (λ (a : Access). a.client ≡ client → a.index < length table) x xs h own)))
    (filled_at client next xs p.1
    (λ k d l own. subst (λ (n : ℕ). (get_or xs k d).index < n) (sym (length_written client table x))
    (All-tail (λ (a : Access). a.client ≡ client → a.index < length table) x xs h k d l own)))

-- ## The bytes of all clients

row_same : (bytes : List (List (List ℕ))) (k i : ℕ) (new : List ℕ)
    → get_or (set bytes k (set (get_or bytes k []) i new)) k [] ≡ set (get_or bytes k []) i new
row_same [] k i new = refl
row_same (x ∷ xs) zero i new = refl
row_same (x ∷ xs) (suc k) i new = row_same xs k i new

row_set : (bytes : List (List (List ℕ))) (k client i : ℕ) (new : List ℕ)
    → get_or (set bytes k (set (get_or bytes k []) i new)) client [] ≡ cond (k == client) (set (get_or bytes client []) i new) (get_or bytes client [])
row_set bytes k client i new =
    ⊎_elim
    (λ (is : (k == client) ≡ true).
    subst
    (λ (n : ℕ). get_or (set bytes k (set (get_or bytes k []) i new)) n [] ≡ cond (k == client) (set (get_or bytes n []) i new) (get_or bytes n []))
    (eqb-true k client is)
    (row_same bytes k i new ∙ sym (cond-true (k == client) (set (get_or bytes k []) i new) (get_or bytes k []) is)))
    (λ (is : (k == client) ≡ false).
    get_or-set_other bytes k client (set (get_or bytes k []) i new) [] (λ e. false≢true (sym is ∙ eq-eqb k client (sym e)))
    ∙ sym (cond-false (k == client) (set (get_or bytes client []) i new) (get_or bytes client []) is))
    (cases_Bool (k == client))

-- of the accesses among all, a client's bytes are those of its own
pub rows : (bytes : List (List (List ℕ))) (xs : List Access) (client : ℕ)
    → get_or (with_accesses bytes xs) client [] ≡ filled client (get_or bytes client []) xs
rows bytes [] client = refl
rows bytes (a ∷ xs) client =
    rows (with_access bytes a) xs client
    ∙ ap (λ (t : List (List ℕ)). filled client t xs) (row_set bytes a.client client a.index a.bytes)

-- ## As the loops go

with_more : (bytes : List (List (List ℕ))) (xs ys : List Access) → with_accesses bytes (xs ++ ys) ≡ with_accesses (with_accesses bytes xs) ys
with_more bytes [] ys = refl
with_more bytes (a ∷ xs) ys = with_more (with_access bytes a) xs ys

by_option : (bytes : List (List (List ℕ))) (xs : List Access) (o : Option Access)
    → with_accesses bytes (cons_option o xs) ≡ with_accesses (with_event bytes o) xs
by_option bytes xs None = refl
by_option bytes xs (Some a) = refl

made_drop : (log : List Event) (i : ℕ) (e : Event) → i < length log → e ≡ get_or log i e
    → accesses_of (drop i log) ≡ cons_option (access_of e) (accesses_of (drop (i + 1) log))
made_drop log i e lt is =
    ap accesses_of (drop_more log i e lt) ∙ ap (λ (x : Event). cons_option (access_of x) (accesses_of (drop (i + 1) log))) (sym is)

-- an event was read
pub with_step : (bytes next whole : List (List (List ℕ))) (log : List Event) (i : ℕ) (e : Event) → i < length log → e ≡ get_or log i e
    → next ≡ with_event bytes (access_of e) → with_accesses bytes (accesses_of (drop i log)) ≡ whole
    → with_accesses next (accesses_of (drop (i + 1) log)) ≡ whole
with_step bytes next whole log i e lt is step so_far =
    ap (λ (t : List (List (List ℕ))). with_accesses t (accesses_of (drop (i + 1) log))) step
    ∙ (sym (by_option bytes (accesses_of (drop (i + 1) log)) (access_of e))
    ∙ (sym (ap (with_accesses bytes) (made_drop log i e lt is)) ∙ so_far))

pub with_end : (bytes whole : List (List (List ℕ))) (log : List Event) (i : ℕ) → length log ≤ i
    → with_accesses bytes (accesses_of (drop i log)) ≡ whole → bytes ≡ whole
with_end bytes whole log i le so_far =
    sym (ap (λ (es : List Event). with_accesses bytes (accesses_of es)) (drop_all i log le)) ∙ so_far

-- a log was read
pub with_log : (bytes next whole : List (List (List ℕ))) (logs : List (Bor (List Event))) (i : ℕ) (log : Bor (List Event)) → i < length logs
    → log ≡ get_or logs i log → next ≡ with_accesses bytes (accesses_of log.now)
    → with_accesses bytes (all_accesses (drop i (events_of logs))) ≡ whole
    → with_accesses next (all_accesses (drop (i + 1) (events_of logs))) ≡ whole
with_log bytes next whole logs i log lt is step so_far =
    let known : i < length (events_of logs) = (let long = length_logs logs in omega arith) in
    let rest = all_accesses (drop (i + 1) (events_of logs)) in
    ap (λ (t : List (List (List ℕ))). with_accesses t rest) step
    ∙ (sym (with_more bytes (accesses_of log.now) rest)
    ∙ (sym (ap (λ (ls : List (List Event)). with_accesses bytes (all_accesses ls)) (drop_more (events_of logs) i [] known)
    ∙ ap (λ (es : List Event). with_accesses bytes (accesses_of es ++ rest)) (read_log logs i log lt is)) ∙ so_far))

pub with_logs_end : (bytes whole : List (List (List ℕ))) (logs : List (Bor (List Event))) (i : ℕ) → length logs ≤ i
    → with_accesses bytes (all_accesses (drop i (events_of logs))) ≡ whole → bytes ≡ whole
with_logs_end bytes whole logs i le so_far =
    sym (ap (λ (ls : List (List Event)). with_accesses bytes (all_accesses ls)) (drop_all i (events_of logs) (let long = length_logs logs in omega arith)))
    ∙ so_far
