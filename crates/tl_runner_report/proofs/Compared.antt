-- Loops over logs and commands.
use Rattle.std.proofs.Common.{◌≡◌, ℕ, zero, suc, ◌+◌, ◌<◌, ◌≤◌, cond, ◌==◌, List, [], ◌∷◌, ◌++◌, length, get_or, set, slice_get, map, take, drop, ⊎_elim, All, count_by, Vec, Option, Some, None, refl, sym, ap, ◌∙◌, subst, arith}
use native.Mathlib.Numerals.{unary_clauses}
use Rattle.std.specs.Borrow.{Bor}
use Rattle.std.specs.declared.alloc.Global.{Global}
use Rattle.std.specs.List.{cons_option, AllWithin}
use Rattle.std.proofs.lemmas.Bool.{cases_lt, cond-true, eq-eqb}
use Rattle.std.proofs.lemmas.List.{drop_more, drop_all, get_or_past, get_or-set_other, get_or-set_same}
use Rattle.std.proofs.lemmas.List.Sums.{sum_by-append, sum_by-cons}
use Rattle.tl_protocol.specs.declared.event.Access.{Access}
use Rattle.tl_protocol.specs.declared.event.Event.{Event}
use Rattle.tl_script_words.specs.declared.command.Command.{Command}
use Rattle.tl_script.specs.Commands.{commands as commands_in}
use Rattle.tl_protocol.specs.OneMemory.{access_of}
use Rattle.tl_rules.specs.Certified.{accesses_of, all_accesses, events_of}
use Rattle.tl_rules.proofs.Cursors.{read_log, length_logs, same_read}
use Rattle.tl_runner_report.specs.Carried.{is_of_client, commands_of, makes_access, HasCommand}
use Rattle.tl_runner_report.specs.Loops.{AreOwed, IsOwed, count_of}

-- ## All elements

pub all_within : {X : Type 0} (P : X → Type 0) (xs : List X) (i : ℕ) → length xs ≤ i → AllWithin P xs 0 i → All P xs
all_within P xs i le h = λ k d lt. h k d (omega arith) (omega arith)

pub not_all : {X : Type 0} (P : X → Type 0) (xs : List X) (i : ℕ) (x : X) → i < length xs → x ≡ get_or xs i x → (P x → ⊥) → All P xs → ⊥
not_all P xs i x lt is never all = never (subst P (sym is) (all i x lt))

-- ## The accesses of a client

pub count_option : (client : ℕ) (o : Option Access) (xs : List Access)
    → count_of client (cons_option o xs) ≡ cond {A = ℕ} (is_of_client client o) 1 0 + count_of client xs
count_option client None xs = omega arith
count_option client (Some a) xs = sum_by-cons (λ (x : Access). cond {A = ℕ} (x.client == client) 1 0) a xs

pub count_step : (client : ℕ) (log : List Event) (i : ℕ) (e : Event) → i < length log → e ≡ get_or log i e
    → count_of client (accesses_of (drop i log)) ≡ cond {A = ℕ} (is_of_client client (access_of e)) 1 0 + count_of client (accesses_of (drop (i + 1) log))
count_step client log i e lt is =
    ap (λ (es : List Event). count_of client (accesses_of es)) (drop_more log i e lt)
    ∙ (ap (λ (x : Event). count_of client (cons_option (access_of x) (accesses_of (drop (i + 1) log)))) (sym is)
    ∙ count_option client (access_of e) (accesses_of (drop (i + 1) log)))

pub count_end : (client : ℕ) (log : List Event) (i : ℕ) → length log ≤ i → count_of client (accesses_of (drop i log)) ≡ 0
count_end client log i le = ap (λ (es : List Event). count_of client (accesses_of es)) (drop_all i log le)

-- of several logs
pub logs_step : (client : ℕ) (logs : List (Bor (List Event))) (i : ℕ) (log : Bor (List Event)) → i < length logs → log ≡ get_or logs i log
    → count_of client (all_accesses (drop i (events_of logs))) ≡ count_of client (accesses_of log.now) + count_of client (all_accesses (drop (i + 1) (events_of logs)))
logs_step client logs i log lt is =
    let known : i < length (events_of logs) = omega (arith, length_logs logs) in
    let rest = all_accesses (drop (i + 1) (events_of logs)) in
    ap (λ (ls : List (List Event)). count_of client (all_accesses ls)) (drop_more (events_of logs) i [] known)
    ∙ (ap (λ (es : List Event). count_of client (accesses_of es ++ rest)) (read_log logs i log lt is)
    ∙ sum_by-append (λ (x : Access). cond {A = ℕ} (x.client == client) 1 0) (accesses_of log.now) rest)

pub logs_end : (client : ℕ) (logs : List (Bor (List Event))) (i : ℕ) → length logs ≤ i → count_of client (all_accesses (drop i (events_of logs))) ≡ 0
logs_end client logs i le =
    ap (λ (ls : List (List Event)). count_of client (all_accesses ls)) (drop_all i (events_of logs) (let l = length_logs logs in omega arith))

-- ## The commands of a client

pub read_list : (cs : List (Vec Command Global)) (i : ℕ) (list : Vec Command Global) → i < length cs → list ≡ get_or cs i list
    → commands_of (commands_in cs) i ≡ list.items
read_list [] i list lt is = absurd (omega arith)
read_list (x ∷ xs) zero list lt is = ap (λ (v : Vec Command Global). v.items) (sym is)
read_list (x ∷ xs) (suc i) list lt is = read_list xs i list (omega arith) is

pub length_lists : (cs : List (Vec Command Global)) → length (commands_in cs) ≡ length cs
length_lists [] = refl
length_lists (x ∷ xs) = let rest = length_lists xs in omega arith

-- an element that was read, among what f makes of each
pub read_mapped : {X Y : Type 0} (f : X → Y) (xs : List X) (i : ℕ) (x : X) (d : Y) → i < length xs → x ≡ get_or xs i x → get_or (map f xs) i d ≡ f x
read_mapped f [] i x d lt is = absurd (omega arith)
read_mapped f (y ∷ ys) zero x d lt is = ap f (sym is)
read_mapped f (y ∷ ys) (suc i) x d lt is = read_mapped f ys i x d (omega arith) is

pub lists_more : (cs : List (Vec Command Global)) (i : ℕ) (list : Vec Command Global) → i < length cs → list ≡ get_or cs i list
    → take (i + 1) (commands_in cs) ≡ take i (commands_in cs) ++ list.items ∷ []
lists_more [] i list lt is = absurd (omega arith)
lists_more (x ∷ xs) zero list lt is = ap (λ (v : Vec Command Global). v.items ∷ []) (sym is)
lists_more (x ∷ xs) (suc i) list lt is =
    simp unary_clauses (ap (λ (ls : List (List Command)). x.items ∷ ls) (simp unary_clauses at (lists_more xs i list (omega arith) is)))

pub mapped_more : {X Y : Type 0} (f : X → Y) (xs : List X) (x : X) → map f (xs ++ x ∷ []) ≡ map f xs ++ f x ∷ []
mapped_more f [] x = refl
mapped_more {X} {Y} f (y ∷ ys) x = ap (λ (zs : List Y). f y ∷ zs) (mapped_more f ys x)

-- what f makes of each, once one element was added
pub grown : {X Y : Type 0} (f : X → Y) (xs items : List X) (x : X) (before : List Y) (y : Y) → items ≡ xs ++ x ∷ [] → map f xs ≡ before → f x ≡ y
    → map f items ≡ before ++ y ∷ []
grown {X} {Y} f xs items x before y is so_far own =
    ap (λ (zs : List X). map f zs) is
    ∙ (mapped_more f xs x ∙ (ap (λ (ys : List Y). ys ++ f x ∷ []) so_far ∙ ap (λ (z : Y). before ++ z ∷ []) own))

-- ## A log at an index

pub log_at_index : (P : List Event → Type 0) (logs : List (Bor (List Event))) (i : ℕ) (log : Bor (List Event)) → i < length logs
    → log ≡ get_or logs i log → P log.now → (d : List Event) → P (get_or (events_of logs) i d)
log_at_index P logs i log lt is p d =
    let known : i < length (events_of logs) = (let long = length_logs logs in omega arith) in
    subst P (sym (same_read (events_of logs) i d [] known ∙ read_log logs i log lt is)) p

pub not_each : (P : List Event → Type 0) (logs : List (Bor (List Event))) (i : ℕ) (log : Bor (List Event)) → i < length logs
    → log ≡ get_or logs i log → (P log.now → ⊥) → All P (events_of logs) → ⊥
not_each P logs i log lt is never all =
    let known : i < length (events_of logs) = (let long = length_logs logs in omega arith) in
    never (subst P (read_log logs i log lt is) (all i [] known))

-- ## What clients owe

-- an access that has a command is of a client that is there
pub has_client : (commands : List (List Command)) (client : ℕ) (index : ℕ) (command : Command)
    → slice_get (commands_of commands client) index ≡ Some command → client < length commands
has_client [] client index command is = let e : None ≡ Some command = is in absurd (cc)
has_client (list ∷ lists) zero index command is = omega arith
has_client (list ∷ lists) (suc client) index command is = let rest = has_client lists client index command is in omega arith

-- of a client that is not there no command counts
pub none_owed : (commands : List (List Command)) (client : ℕ) → length commands ≤ client → count_by makes_access (commands_of commands client) ≡ 0
none_owed commands client le = ap (λ (cs : List Command). count_by makes_access cs) (get_or_past commands client [] le)

owed_there : (commands : List (List Command)) (e : Event) (owed : List ℕ) (o : Option Access) → HasCommand commands e o
    → ((client : ℕ) → client < length commands → cond {A = ℕ} (is_of_client client o) 1 0 ≤ get_or owed client 0) → IsOwed owed o
owed_there commands e owed None has h = tt
owed_there commands e owed (Some a) has h =
    let le = h a.client (has_client commands a.client a.index has.0 has.1) in
    let one : cond {A = ℕ} (a.client == a.client) 1 0 ≡ 1 = cond-true (a.client == a.client) 1 0 (eq-eqb a.client a.client refl) in
    omega arith

-- where no client has more accesses in a log than it owed, it owes the next one
pub still_owed : (commands : List (List Command)) (before now : List ℕ) (log : List Event) (i : ℕ) (e : Event) → i < length log
    → e ≡ get_or log i e → HasCommand commands e (access_of e)
    → ((client : ℕ) → get_or now client 0 + count_of client (accesses_of log) ≡ get_or before client 0 + count_of client (accesses_of (drop i log)))
    → AreOwed (length commands) before (accesses_of log) → IsOwed now (access_of e)
still_owed commands before now log i e lt is has counted owed =
    owed_there commands e now (access_of e) has
    (λ client known.
    let sum = counted client in
    let most = owed client known in
    let step = count_step client log i e lt is in
    omega arith)

-- one event more
pub counted_more : (client now next before : ℕ) (log : List Event) (i : ℕ) (e : Event) → i < length log → e ≡ get_or log i e
    → next + count_of client (cons_option (access_of e) []) ≡ now
    → now + count_of client (accesses_of log) ≡ before + count_of client (accesses_of (drop i log))
    → next + count_of client (accesses_of log) ≡ before + count_of client (accesses_of (drop (i + 1) log))
counted_more client now next before log i e lt is one so_far =
    let step = count_step client log i e lt is in
    let own = count_option client (access_of e) [] in
    let none : count_of client [] ≡ 0 = refl in
    omega arith

-- where each of some numbers is 0
pub zero_at : (xs : List ℕ) → All (λ count. count ≡ 0) xs → (i : ℕ) → get_or xs i 0 ≡ 0
zero_at xs all i = ⊎_elim (λ (lt : i < length xs). all i 0 lt) (λ (le : length xs ≤ i). get_or_past xs i 0 le) (cases_lt i (length xs))

pub all_zero : (xs : List ℕ) → ((i : ℕ) → get_or xs i 0 ≡ 0) → All (λ count. count ≡ 0) xs
all_zero xs each = λ i d lt. same_read xs i d 0 lt ∙ each i

-- one number written at an index
pub written_at : (xs : List ℕ) (i n : ℕ) (P : ℕ → ℕ → Type 0) → i < length xs → ((k : ℕ) → k < i → P k (get_or xs k 0)) → P i n
    → (k : ℕ) → k < i + 1 → P k (get_or (set xs i n) k 0)
written_at xs i n P lt below here k less =
    ⊎_elim
    (λ (l : k < i). subst (P k) (sym (get_or-set_other xs i k n 0 (λ e. absurd (omega arith)))) (below k l))
    (λ (le : i ≤ k).
    let same : k ≡ i = omega arith in
    subst (λ (j : ℕ). P j (get_or (set xs i n) j 0)) (sym same) (subst (P i) (sym (get_or-set_same xs i n 0 lt)) here))
    (cases_lt k i)
