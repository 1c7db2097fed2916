-- The events of several logs from their cursors on.
use Rattle.std.proofs.Common.{◌≡◌, ℕ, zero, suc, ◌+◌, ◌<◌, ◌≤◌, nat_le, ⊎_elim, List, [], ◌∷◌, ◌++◌, length, get_or, set, drop, replicate, All, Option, Some, None, refl, sym, ap, ◌∙◌, subst, arith, append_assoc}
use Rattle.std.specs.List.{cons_option}
use Rattle.std.proofs.lemmas.Bool.{cases_lt, cond_both, leb-true, leb-false}
use Rattle.std.proofs.lemmas.List.{drop_more, drop_all}
use Rattle.std.proofs.lemmas.List.Elements.{All-nil, All-cons, All-append, All-get_or, All-same}
use Rattle.tl_protocol.specs.declared.event.Access.{Access}
use Rattle.tl_protocol.specs.declared.event.Event.{Event}
use Rattle.std.specs.Borrow.{Bor}
use Rattle.tl_rules.specs.declared.merge.Next.{Next}
use Rattle.tl_protocol.specs.OneMemory.{access_of}
use Rattle.tl_rules.specs.Certified.{accesses_of, all_accesses, events_of, IsEarlier}
use Rattle.tl_rules.specs.Left.{Pairwise}
use Rattle.tl_rules.specs.Left.{left, stamp_in, IsNext, earlier}

-- how many events are left
abbrev pub count_left : List (List Event) → ℕ
count_left [] = 0
count_left (log ∷ logs) = length log + count_left logs

cons_more : (o : Option Access) (xs ys : List Access) → cons_option o xs ++ ys ≡ cons_option o (xs ++ ys)
cons_more None xs ys = refl
cons_more (Some a) xs ys = refl

-- the event at a log's cursor, and the accesses before and behind it
pub record Split (logs : List (List Event)) (cursors : List ℕ) (place : ℕ) (e : Event) : Type 0 where
  pub front : List Access
  pub back : List Access
  pub now : all_accesses (left logs cursors) ≡ front ++ cons_option (access_of e) back
  pub next : all_accesses (left logs (set cursors place (get_or cursors place 0 + 1))) ≡ front ++ back
  pub fewer : count_left (left logs (set cursors place (get_or cursors place 0 + 1))) < count_left (left logs cursors)

-- there it is
pub split : (logs : List (List Event)) (cursors : List ℕ) (place : ℕ) (e : Event) → place < length logs → length logs ≤ length cursors
    → get_or cursors place 0 < length (get_or logs place []) → e ≡ get_or (get_or logs place []) (get_or cursors place 0) e
    → Split logs cursors place e
split [] cursors place e lt few more is = absurd (omega arith)
split (log ∷ logs) [] place e lt few more is = absurd (omega arith)
split (log ∷ logs) (cursor ∷ cursors) zero e lt few more is =
    let step = drop_more log cursor e more in
    let rest = all_accesses (left logs cursors) in
    record {
      front = [];
      back = accesses_of (drop (cursor + 1) log) ++ rest;
      now =
          ap (λ (es : List Event). accesses_of es ++ rest) step
          ∙ (ap (λ (x : Event). cons_option (access_of x) (accesses_of (drop (cursor + 1) log)) ++ rest) (sym is)
          ∙ cons_more (access_of e) (accesses_of (drop (cursor + 1) log)) rest);
      next = refl;
      fewer = omega (arith, ap (λ (es : List Event). length es) step);
    }
split (log ∷ logs) (cursor ∷ cursors) (suc place) e lt few more is =
    let rest : Split logs cursors place e = split logs cursors place e (omega arith) (omega arith) more is in
    record {
      front = accesses_of (drop cursor log) ++ rest.front;
      back = rest.back;
      now = ap (λ (xs : List Access). accesses_of (drop cursor log) ++ xs) rest.now ∙ sym (append_assoc (accesses_of (drop cursor log)) rest.front _);
      next = ap (λ (xs : List Access). accesses_of (drop cursor log) ++ xs) rest.next ∙ sym (append_assoc (accesses_of (drop cursor log)) rest.front _);
      fewer = (let f = rest.fewer in omega arith);
    }

-- at first nothing was taken
pub all_left : (logs : List (List Event)) (n : ℕ) → length logs ≤ n → left logs (replicate n 0) ≡ logs
all_left [] n few = refl
all_left (log ∷ logs) zero few = absurd (omega arith)
all_left (log ∷ logs) (suc n) few = ap (λ (ls : List (List Event)). log ∷ ls) (all_left logs n (omega arith))

-- ## The least stamp

-- what holds of the accesses that each log has left
pub each_left : (P : Access → Type 0) (logs : List (List Event)) (cursors : List ℕ) → length logs ≤ length cursors
    → ((place : ℕ) → place < length logs → All P (accesses_of (drop (get_or cursors place 0) (get_or logs place []))))
    → All P (all_accesses (left logs cursors))
each_left P [] cursors few each = All-nil P
each_left P (log ∷ logs) [] few each = absurd (omega arith)
each_left P (log ∷ logs) (cursor ∷ cursors) few each =
    All-append P (accesses_of (drop cursor log)) (all_accesses (left logs cursors)) (each 0 (omega arith))
    (each_left P logs cursors (omega arith) (λ place lt. each (suc place) (omega arith)))

-- where no log has an event left
pub none_left : (logs : List (List Event)) (cursors : List ℕ) → length logs ≤ length cursors
    → ((place : ℕ) → place < length logs → length (get_or logs place []) ≤ get_or cursors place 0)
    → all_accesses (left logs cursors) ≡ []
none_left [] cursors few each = refl
none_left (log ∷ logs) [] few each = absurd (omega arith)
none_left (log ∷ logs) (cursor ∷ cursors) few each =
    ap (λ (es : List Event). accesses_of es ++ all_accesses (left logs cursors)) (drop_all cursor log (each 0 (omega arith)))
    ∙ none_left logs cursors (omega arith) (λ place lt. each (suc place) (omega arith))

rising_rest : (o : Option Access) (xs : List Access) → Pairwise IsEarlier (cons_option o xs) → Pairwise IsEarlier xs
rising_rest None xs p = p
rising_rest (Some a) xs p = p.1

-- the stamps of what is left of a log rise
pub rising_left : (log : List Event) (cursor : ℕ) → Pairwise IsEarlier (accesses_of log) → Pairwise IsEarlier (accesses_of (drop cursor log))
rising_left log zero rising = rising
rising_left [] (suc cursor) rising = tt
rising_left (e ∷ log) (suc cursor) rising = rising_left log cursor (rising_rest (access_of e) (accesses_of log) rising)

least_first : (o : Option Access) (xs : List Access) → Pairwise IsEarlier (cons_option o xs)
    → All (λ (b : Access). stamp_in o ≤ b.stamp) (cons_option o xs)
least_first None xs p = λ k d l. omega arith
least_first (Some a) xs p =
    All-cons (λ (b : Access). a.stamp ≤ b.stamp) a xs (omega arith)
    (λ k d l. let lt : a.stamp < (get_or xs k d).stamp = p.0 k d l in omega arith)

-- the event at a log's cursor has the least stamp of what is left of it
pub least_left : (log : List Event) (cursor : ℕ) (e : Event) → Pairwise IsEarlier (accesses_of log) → cursor < length log
    → e ≡ get_or log cursor e → All (λ (b : Access). stamp_in (access_of e) ≤ b.stamp) (accesses_of (drop cursor log))
least_left log cursor e rising lt is =
    let step : accesses_of (drop cursor log) ≡ cons_option (access_of e) (accesses_of (drop (cursor + 1) log)) =
    ap accesses_of (drop_more log cursor e lt)
    ∙ ap (λ (x : Event). cons_option (access_of x) (accesses_of (drop (cursor + 1) log))) (sym is) in
    subst (λ (xs : List Access). All (λ (b : Access). stamp_in (access_of e) ≤ b.stamp) xs) (sym step)
    (least_first (access_of e) (accesses_of (drop (cursor + 1) log))
    (subst (Pairwise IsEarlier) step (rising_left log cursor rising)))

-- ## The search for the next

-- the log at an index
pub read_log : (logs : List (Bor (List Event))) (i : ℕ) (log : Bor (List Event)) → i < length logs → log ≡ get_or logs i log
    → get_or (events_of logs) i [] ≡ log.now
read_log [] i log lt is = absurd (omega arith)
read_log (x ∷ xs) zero log lt is = ap (λ (l : Bor (List Event)). l.now) (sym is)
read_log (x ∷ xs) (suc i) log lt is = read_log xs i log (omega arith) is

pub length_logs : (logs : List (Bor (List Event))) → length (events_of logs) ≡ length logs
length_logs [] = refl
length_logs (x ∷ xs) = omega (arith, length_logs xs)

-- the event at the cursor of a log
abbrev AtCursor : List (List Event) → List ℕ → ℕ → Event → Type 0
AtCursor logs cursors place e = e ≡ get_or (get_or logs place []) (get_or cursors place 0) e

-- what a log has left has no stamp below
abbrev NoneBelow : List (List Event) → List ℕ → ℕ → ℕ → Type 0
NoneBelow logs cursors stamp place =
    All (λ (b : Access). stamp ≤ b.stamp) (accesses_of (drop (get_or cursors place 0) (get_or logs place [])))

-- it is the next of the first logs
abbrev pub IsBest : List (List Event) → List ℕ → ℕ → Option Next → Type 0
IsBest logs cursors i None = (place : ℕ) → place < i → length (get_or logs place []) ≤ get_or cursors place 0
IsBest logs cursors i (Some next) =
    (next.place < length logs)
    × (get_or cursors next.place 0 < length (get_or logs next.place []))
    × ((e : Event) → AtCursor logs cursors next.place e → next.stamp ≡ stamp_in (access_of e))
    × ((place : ℕ) → place < i → NoneBelow logs cursors next.stamp place)

pub below_next : (P : ℕ → Type 0) (i : ℕ) → ((k : ℕ) → k < i → P k) → P i → (k : ℕ) → k < i + 1 → P k
below_next P i h p k l = ⊎_elim (λ (lt : k < i). h k lt) (λ (ge : i ≤ k). let e : i ≡ k = omega arith in subst P e p) (cases_lt k i)

none_of : (logs : List (List Event)) (cursors : List ℕ) (stamp place : ℕ) → length (get_or logs place []) ≤ get_or cursors place 0
    → NoneBelow logs cursors stamp place
none_of logs cursors stamp place le =
    All-same (λ (b : Access). stamp ≤ b.stamp) (accesses_of (drop (get_or cursors place 0) (get_or logs place []))) []
    (ap accesses_of (drop_all (get_or cursors place 0) (get_or logs place []) le)) (All-nil (λ (b : Access). stamp ≤ b.stamp))

-- a log with nothing left
pub best_same : (logs : List (List Event)) (cursors : List ℕ) (i : ℕ) (next : Option Next) → IsBest logs cursors i next
    → length (get_or logs i []) ≤ get_or cursors i 0 → IsBest logs cursors (i + 1) next
best_same logs cursors i None best le =
    below_next (λ place. length (get_or logs place []) ≤ get_or cursors place 0) i best le
best_same logs cursors i (Some next) best le =
    (best.0, best.1, best.2, below_next (NoneBelow logs cursors next.stamp) i best.3 (none_of logs cursors next.stamp i le))

none_lower : (logs : List (List Event)) (cursors : List ℕ) (s t place : ℕ) → s ≤ t → NoneBelow logs cursors t place → NoneBelow logs cursors s place
none_lower logs cursors s t place le h =
    λ k d l. let more : t ≤ (get_or (accesses_of (drop (get_or cursors place 0) (get_or logs place []))) k d).stamp = h k d l in omega arith

-- an element that is there does not hang on the default
pub same_read : {X : Type 0} (xs : List X) (i : ℕ) (d e : X) → i < length xs → get_or xs i d ≡ get_or xs i e
same_read [] i d e lt = absurd (omega arith)
same_read (x ∷ xs) zero d e lt = refl
same_read (x ∷ xs) (suc i) d e lt = same_read xs i d e (omega arith)

one_event : (logs : List (List Event)) (cursors : List ℕ) (i : ℕ) (e other : Event) → get_or cursors i 0 < length (get_or logs i [])
    → AtCursor logs cursors i e → AtCursor logs cursors i other → e ≡ other
one_event logs cursors i e other more at there =
    at ∙ (same_read (get_or logs i []) (get_or cursors i 0) e other more ∙ sym there)

more_best : (logs : List (List Event)) (cursors : List ℕ) (i : ℕ) (next : Option Next) (stamp : ℕ) → IsBest logs cursors i next
    → i < length logs → get_or cursors i 0 < length (get_or logs i [])
    → ((other : Event) → AtCursor logs cursors i other → stamp ≡ stamp_in (access_of other)) → NoneBelow logs cursors stamp i
    → IsBest logs cursors (i + 1) (earlier next (record { place = i; stamp = stamp }))
more_best logs cursors i None stamp best lt more reads own =
    (lt, more, reads, below_next (NoneBelow logs cursors stamp) i (λ k l. none_of logs cursors stamp k (best k l)) own)
more_best logs cursors i (Some next) stamp best lt more reads own =
    let other : Next = record { place = i; stamp = stamp } in
    cond_both (nat_le next.stamp stamp) (Some next) (Some other) (IsBest logs cursors (i + 1))
    (λ q. let le : next.stamp ≤ stamp = leb-true next.stamp stamp q in
    (best.0, best.1, best.2, below_next (NoneBelow logs cursors next.stamp) i best.3 (none_lower logs cursors next.stamp stamp i le own)))
    (λ q. let lower : stamp < next.stamp = leb-false next.stamp stamp q in
    (lt, more, reads, below_next (NoneBelow logs cursors stamp) i (λ k l. none_lower logs cursors stamp next.stamp k (omega arith) (best.3 k l)) own))

-- a log with an event left
pub best_more : (logs : List (List Event)) (cursors : List ℕ) (i : ℕ) (next : Option Next) (e : Event) (stamp : ℕ) → IsBest logs cursors i next
    → i < length logs → get_or cursors i 0 < length (get_or logs i []) → AtCursor logs cursors i e → stamp ≡ stamp_in (access_of e)
    → Pairwise IsEarlier (accesses_of (get_or logs i []))
    → IsBest logs cursors (i + 1) (earlier next (record { place = i; stamp = stamp }))
best_more logs cursors i next e stamp best lt more at is rising =
    let own : NoneBelow logs cursors stamp i =
    subst (λ (s : ℕ). NoneBelow logs cursors s i) (sym is) (least_left (get_or logs i []) (get_or cursors i 0) e rising more at) in
    let reads : (other : Event) → AtCursor logs cursors i other → stamp ≡ stamp_in (access_of other) =
    λ other there. is ∙ ap (λ (x : Event). stamp_in (access_of x)) (one_event logs cursors i e other more at there) in
    more_best logs cursors i next stamp best lt more reads own

-- all were looked at
pub best_is_next : (logs : List (List Event)) (cursors : List ℕ) (i : ℕ) (next : Next) → IsBest logs cursors i (Some next)
    → length logs ≤ i → length logs ≤ length cursors → IsNext logs cursors next.place
best_is_next logs cursors i next best all few = (
  best.0,
  best.1,
  λ e at. subst (λ (s : ℕ). All (λ (b : Access). s ≤ b.stamp) (all_accesses (left logs cursors))) (best.2 e at)
      (each_left (λ (b : Access). next.stamp ≤ b.stamp) logs cursors few (λ place lt. best.3 place (omega arith))),
)

pub best_is_none : (logs : List (List Event)) (cursors : List ℕ) (i : ℕ) (next : Option Next) → IsBest logs cursors i next → next ≡ None
    → length logs ≤ i → length logs ≤ length cursors → all_accesses (left logs cursors) ≡ []
best_is_none logs cursors i next best is all few =
    let none : IsBest logs cursors i None = subst (IsBest logs cursors i) is best in
    none_left logs cursors few (λ place lt. none place (omega arith))

-- the same, with the log as it was read
pub best_more_at : (logs : List (Bor (List Event))) (cursors : List ℕ) (i : ℕ) (next : Option Next) (log : Bor (List Event)) (e : Event) (stamp : ℕ)
    → IsBest (events_of logs) cursors i next → All (λ (log : List Event). Pairwise IsEarlier (accesses_of log)) (events_of logs)
    → i < length logs → log ≡ get_or logs i log → get_or cursors i 0 < length log.now → e ≡ get_or log.now (get_or cursors i 0) e
    → stamp ≡ stamp_in (access_of e)
    → IsBest (events_of logs) cursors (i + 1) (earlier next (record { place = i; stamp = stamp }))
best_more_at logs cursors i next log e stamp best rising lt is more at stamped =
    let r : get_or (events_of logs) i [] ≡ log.now = read_log logs i log lt is in
    let known : i < length (events_of logs) = omega (arith, length_logs logs) in
    best_more (events_of logs) cursors i next e stamp best known
    (subst (λ (es : List Event). get_or cursors i 0 < length es) (sym r) more)
    (subst (λ (es : List Event). e ≡ get_or es (get_or cursors i 0) e) (sym r) at)
    stamped
    (All-get_or (λ (log : List Event). Pairwise IsEarlier (accesses_of log)) (events_of logs) i [] known rising)

pub best_same_at : (logs : List (Bor (List Event))) (cursors : List ℕ) (i : ℕ) (next : Option Next) (log : Bor (List Event))
    → IsBest (events_of logs) cursors i next → i < length logs → log ≡ get_or logs i log → length log.now ≤ get_or cursors i 0
    → IsBest (events_of logs) cursors (i + 1) next
best_same_at logs cursors i next log best lt is le =
    best_same (events_of logs) cursors i next best
    (subst (λ (es : List Event). length es ≤ get_or cursors i 0) (sym (read_log logs i log lt is)) le)
