-- The loop that takes the accesses in the order of their stamps.
use Rattle.std.proofs.Common.{◌≡◌, ℕ, zero, suc, ◌+◌, ◌<◌, ◌≤◌, List, [], ◌∷◌, ◌++◌, length, length-drop, get_or, set, drop, take, replicate, All, Option, Some, None, refl, sym, ap, ◌∙◌, subst, arith}
use native.Mathlib.Numerals.{unary_clauses}
use Rattle.std.specs.List.{cons_option}
use Rattle.std.specs.Borrow.{Bor}
use Rattle.tl_types.specs.declared.limits.TheConstants.{CLIENTS}
use Rattle.tl_protocol.specs.LogView.{LogView}
use Rattle.tl_protocol.specs.declared.event.Access.{Access}
use Rattle.tl_protocol.specs.declared.event.Event.{Event}
use Rattle.tl_rules.specs.declared.merge.Mark.{Mark}
use Rattle.tl_protocol.specs.OneMemory.{access_of}
use Rattle.tl_rules.specs.Certified.{accesses_of, all_accesses, events_of, logs_of, IsEarlier, AreApart, KeepIndexes, IsCertified}
use Rattle.tl_rules.specs.Left.{Pairwise}
use Rattle.tl_rules.specs.Left.{left, stamp_in, IsNext, AreOrdered, FollowsMark}
use Rattle.std.proofs.lemmas.List.Elements.{All-nil, All-append, All-get_or, All-from_get_or}
use Rattle.tl_rules.proofs.Cursors.{below_next, count_left, Split, split, all_left, read_log, length_logs}
use Rattle.std.proofs.Math.ListN.{length-set}
use Rattle.tl_rules.proofs.Pairs.{by_place, one_by_one}
use Rattle.tl_rules.proofs.Merging.{Alike, Follows, mark_of, alike_first, alike_more, alike_last, not_alike, all_without, all_parts, all_ordered, all_apart, all_keep}

-- the clients of what is left are known, and all accesses are in order just where those that are left are
pub record State (logs : List (List Event)) (cursors : List ℕ) (last : List (Option Mark)) : Type 0 where
  pub wide : length cursors ≡ 8
  pub long : length last ≡ CLIENTS
  pub known : All (λ (a : Access). a.client < CLIENTS) (all_accesses (left logs cursors))
  pub alike : Alike last (all_accesses logs) (all_accesses (left logs cursors))

-- an access, with what stands before and behind it
pub record Found (logs : List (List Event)) (cursors : List ℕ) (place : ℕ) (a : Access) : Type 0 where
  pub front : List Access
  pub back : List Access
  pub now : all_accesses (left logs cursors) ≡ front ++ a ∷ back
  pub next : all_accesses (left logs (set cursors place (get_or cursors place 0 + 1))) ≡ front ++ back
  pub least : All (λ (b : Access). a.stamp ≤ b.stamp) (front ++ a ∷ back)

pub found : (logs : List (List Event)) (cursors : List ℕ) (place : ℕ) (e : Event) (a : Access) → Split logs cursors place e
    → access_of e ≡ Some a → All (λ (b : Access). stamp_in (access_of e) ≤ b.stamp) (all_accesses (left logs cursors))
    → Found logs cursors place a
found logs cursors place e a s is least =
    let now : all_accesses (left logs cursors) ≡ s.front ++ a ∷ s.back = s.now ∙ ap (λ (o : Option Access). s.front ++ cons_option o s.back) is in
    record {
      front = s.front;
      back = s.back;
      now = now;
      next = s.next;
      least =
          subst (λ (o : Option Access). All (λ (b : Access). stamp_in o ≤ b.stamp) (s.front ++ a ∷ s.back)) is
          (subst (λ (xs : List Access). All (λ (b : Access). stamp_in (access_of e) ≤ b.stamp) xs) now least);
    }

-- its client is known
pub found_known : (logs : List (List Event)) (cursors : List ℕ) (last : List (Option Mark)) (place : ℕ) (a : Access) → Found logs cursors place a
    → State logs cursors last → a.client < CLIENTS
found_known logs cursors last place a f state =
    (all_without (λ (b : Access). b.client < CLIENTS) f.front a f.back
    (subst (λ (xs : List Access). All (λ (b : Access). b.client < CLIENTS) xs) f.now state.known)).0

-- at first
pub state_first : (logs : List (List Event)) → length logs ≤ 8 → All (λ (a : Access). a.client < CLIENTS) (all_accesses logs)
    → State logs (replicate 8 0) (replicate CLIENTS None)
state_first logs few known =
    let n : ℕ = 8 in
    let m : ℕ = CLIENTS in
    let same : all_accesses (left logs (replicate n 0)) ≡ all_accesses logs = ap all_accesses (all_left logs n few) in
    record {
      wide = refl;
      long = refl;
      known = subst (λ (xs : List Access). All (λ (a : Access). a.client < CLIENTS) xs) (sym same) known;
      alike = subst (λ (xs : List Access). Alike (replicate m None) (all_accesses logs) xs) (sym same) (alike_first m (all_accesses logs));
    }

-- an event that is no access is taken
pub state_same : (logs : List (List Event)) (cursors : List ℕ) (last : List (Option Mark)) (place : ℕ) (e : Event) → State logs cursors last
    → Split logs cursors place e → access_of e ≡ None → State logs (set cursors place (get_or cursors place 0 + 1)) last
state_same logs cursors last place e state s is =
    let same : all_accesses (left logs cursors) ≡ all_accesses (left logs (set cursors place (get_or cursors place 0 + 1))) =
    s.now ∙ (ap (λ (o : Option Access). s.front ++ cons_option o s.back) is ∙ sym s.next) in
    record {
      wide = length-set cursors place (get_or cursors place 0 + 1) ∙ state.wide;
      long = state.long;
      known = subst (λ (xs : List Access). All (λ (a : Access). a.client < CLIENTS) xs) same state.known;
      alike = subst (λ (xs : List Access). Alike last (all_accesses logs) xs) same state.alike;
    }

-- an access is taken
pub state_more : (logs : List (List Event)) (cursors : List ℕ) (last : List (Option Mark)) (place : ℕ) (a : Access) → State logs cursors last
    → Found logs cursors place a → Follows last a
    → State logs (set cursors place (get_or cursors place 0 + 1)) (set last a.client (Some (mark_of a)))
state_more logs cursors last place a state f follows =
    let client : a.client < CLIENTS = found_known logs cursors last place a f state in
    let known : All (λ (b : Access). b.client < CLIENTS) (f.front ++ a ∷ f.back) =
    subst (λ (xs : List Access). All (λ (b : Access). b.client < CLIENTS) xs) f.now state.known in
    let alike : Alike last (all_accesses logs) (f.front ++ a ∷ f.back) =
    subst (λ (xs : List Access). Alike last (all_accesses logs) xs) f.now state.alike in
    let long : length last ≡ CLIENTS = state.long in
    record {
      wide = length-set cursors place (get_or cursors place 0 + 1) ∙ state.wide;
      long = length-set last a.client (Some (mark_of a)) ∙ long;
      known =
          subst (λ (xs : List Access). All (λ (b : Access). b.client < CLIENTS) xs) (sym f.next)
          (all_without (λ (b : Access). b.client < CLIENTS) f.front a f.back known).1;
      alike =
          subst (λ (xs : List Access). Alike (set last a.client (Some (mark_of a))) (all_accesses logs) xs) (sym f.next)
          (alike_more last (all_accesses logs) f.front a f.back alike (omega arith) follows
          (all_without (λ (b : Access). a.stamp ≤ b.stamp) f.front a f.back f.least).1);
    }

-- a cursor goes over events that are no accesses
left_moved : (logs : List (List Event)) (cursors : List ℕ) (place : ℕ) (m n : ℕ)
    → accesses_of (drop n (get_or logs place [])) ≡ accesses_of (drop m (get_or logs place []))
    → all_accesses (left logs (set cursors place n)) ≡ all_accesses (left logs (set cursors place m))
left_moved [] cursors place m n same = refl
left_moved (log ∷ logs) [] place m n same = refl
left_moved (log ∷ logs) (cursor ∷ cursors) zero m n same = ap (λ (xs : List Access). xs ++ all_accesses (left logs cursors)) same
left_moved (log ∷ logs) (cursor ∷ cursors) (suc place) m n same =
    ap (λ (xs : List Access). accesses_of (drop cursor log) ++ xs) (left_moved logs cursors place m n same)

pub state_moved : (logs : List (List Event)) (cursors : List ℕ) (last : List (Option Mark)) (place : ℕ) (m n : ℕ)
    → accesses_of (drop n (get_or logs place [])) ≡ accesses_of (drop m (get_or logs place []))
    → State logs (set cursors place m) last → State logs (set cursors place n) last
state_moved logs cursors last place m n same state =
    let is = left_moved logs cursors place m n same in
    record {
      wide = length-set cursors place n ∙ (sym (length-set cursors place m) ∙ state.wide);
      long = state.long;
      known = subst (λ (xs : List Access). All (λ (a : Access). a.client < CLIENTS) xs) (sym is) state.known;
      alike = subst (λ (xs : List Access). Alike last (all_accesses logs) xs) (sym is) state.alike;
    }

-- fewer events are left then
pub fewer_moved : (logs : List (List Event)) (cursors : List ℕ) (place : ℕ) (m n : ℕ) → m ≤ n
    → count_left (left logs (set cursors place n)) ≤ count_left (left logs (set cursors place m))
fewer_moved [] cursors place m n le = omega arith
fewer_moved (log ∷ logs) [] place m n le = omega arith
fewer_moved (log ∷ logs) (cursor ∷ cursors) zero m n le = omega (arith, length-drop n log, length-drop m log)
fewer_moved (log ∷ logs) (cursor ∷ cursors) (suc place) m n le = let h = fewer_moved logs cursors place m n le in omega arith

-- an access that does not follow
pub state_refuted : (logs : List (List Event)) (cursors : List ℕ) (last : List (Option Mark)) (place : ℕ) (a : Access) → State logs cursors last
    → Found logs cursors place a → (Follows last a → ⊥) → Pairwise AreOrdered (all_accesses logs) → ⊥
state_refuted logs cursors last place a state f never p =
    not_alike last (all_accesses logs) f.front a f.back (subst (λ (xs : List Access). Alike last (all_accesses logs) xs) f.now state.alike) never p

-- nothing is left
pub state_last : (logs : List (List Event)) (cursors : List ℕ) (last : List (Option Mark)) → State logs cursors last
    → all_accesses (left logs cursors) ≡ [] → Pairwise AreOrdered (all_accesses logs)
state_last logs cursors last state is = alike_last last (all_accesses logs) (all_accesses (left logs cursors)) state.alike is

-- ## At a log as it was read

-- the event at the cursor of the next log
pub split_at : (logs : List (Bor (List Event))) (cursors : List ℕ) (place : ℕ) (log : Bor (List Event)) (e : Event)
    → length logs ≤ length cursors → place < length logs → log ≡ get_or logs place log → get_or cursors place 0 < length log.now
    → e ≡ get_or log.now (get_or cursors place 0) e → Split (events_of logs) cursors place e
split_at logs cursors place log e few lt is more at =
    let r : get_or (events_of logs) place [] ≡ log.now = read_log logs place log lt is in
    split (events_of logs) cursors place e (omega (arith, length_logs logs)) (omega (arith, length_logs logs))
    (subst (λ (es : List Event). get_or cursors place 0 < length es) (sym r) more)
    (subst (λ (es : List Event). e ≡ get_or es (get_or cursors place 0) e) (sym r) at)

-- there is one
pub next_more : (logs : List (Bor (List Event))) (cursors : List ℕ) (place : ℕ) (log : Bor (List Event)) → place < length logs
    → log ≡ get_or logs place log → IsNext (events_of logs) cursors place → get_or cursors place 0 < length log.now
next_more logs cursors place log lt is next =
    subst (λ (es : List Event). get_or cursors place 0 < length es) (read_log logs place log lt is) next.1

pub next_place : (logs : List (Bor (List Event))) (cursors : List ℕ) (place : ℕ) → IsNext (events_of logs) cursors place → place < length logs
next_place logs cursors place next = let lt : place < length (events_of logs) = next.0 in omega (arith, length_logs logs)

-- it has the least stamp
pub next_least : (logs : List (Bor (List Event))) (cursors : List ℕ) (place : ℕ) (log : Bor (List Event)) (e : Event)
    → place < length logs → log ≡ get_or logs place log → e ≡ get_or log.now (get_or cursors place 0) e → IsNext (events_of logs) cursors place
    → All (λ (b : Access). stamp_in (access_of e) ≤ b.stamp) (all_accesses (left (events_of logs) cursors))
next_least logs cursors place log e lt is at next =
    next.2 e (subst (λ (es : List Event). e ≡ get_or es (get_or cursors place 0) e) (sym (read_log logs place log lt is)) at)

-- ## Each log

-- what holds of all accesses holds of those of each log
pub each_of : (P : Access → Type 0) (logs : List (List Event)) (i : ℕ) → All P (all_accesses logs) → i < length logs → All P (accesses_of (get_or logs i []))
each_of P [] i all lt = absurd (omega arith)
each_of P (log ∷ logs) zero all lt = (all_parts P (accesses_of log) (all_accesses logs) all).0
each_of P (log ∷ logs) (suc i) all lt = each_of P logs i (all_parts P (accesses_of log) (all_accesses logs) all).1 (omega arith)

pub all_of : (P : Access → Type 0) (logs : List (List Event)) → ((i : ℕ) → i < length logs → All P (accesses_of (get_or logs i []))) → All P (all_accesses logs)
all_of P [] each = All-nil P
all_of P (log ∷ logs) each =
    All-append P (accesses_of log) (all_accesses logs) (each 0 (omega arith)) (all_of P logs (λ i lt. each (suc i) (omega arith)))

-- the log at an index is lawful
abbrev pub IsLawfulAt : List (List Event) → ℕ → Type 0
IsLawfulAt logs i = All (λ (a : Access). a.client < CLIENTS) (accesses_of (get_or logs i [])) × Pairwise IsEarlier (accesses_of (get_or logs i []))

-- a log is
abbrev IsLawfulLog : List Event → Type 0
IsLawfulLog log = All (λ (a : Access). a.client < CLIENTS) (accesses_of log) × Pairwise IsEarlier (accesses_of log)

-- all logs are
abbrev AreLawful : List (List Event) → Type 0
AreLawful logs = All (λ (a : Access). a.client < CLIENTS) (all_accesses logs) × All (λ (log : List Event). Pairwise IsEarlier (accesses_of log)) logs

pub lawful_more : (logs : List (Bor (List Event))) (i : ℕ) (log : Bor (List Event)) → i < length logs → log ≡ get_or logs i log
    → ((k : ℕ) → k < i → IsLawfulAt (events_of logs) k) → IsLawfulLog log.now → (k : ℕ) → k < i + 1 → IsLawfulAt (events_of logs) k
lawful_more logs i log lt is each own =
    below_next (IsLawfulAt (events_of logs)) i each (subst IsLawfulLog (sym (read_log logs i log lt is)) own)

pub lawful_all : (logs : List (Bor (List Event))) (i : ℕ) → length logs ≤ i → ((k : ℕ) → k < i → IsLawfulAt (events_of logs) k)
    → AreLawful (events_of logs)
lawful_all logs i le each =
    let long = length_logs logs in (
      all_of (λ (a : Access). a.client < CLIENTS) (events_of logs) (λ k lt. (each k (omega arith)).0),
      All-from_get_or (λ (log : List Event). Pairwise IsEarlier (accesses_of log)) (events_of logs) [] (λ k lt. (each k (omega arith)).1),
    )

pub lawful_each : (logs : List (Bor (List Event))) (i : ℕ) (log : Bor (List Event)) → i < length logs → log ≡ get_or logs i log
    → AreLawful (events_of logs) → IsLawfulLog log.now
lawful_each logs i log lt is all =
    let long = length_logs logs in
    let known : i < length (events_of logs) = omega arith in
    subst IsLawfulLog (read_log logs i log lt is) (
      each_of (λ (a : Access). a.client < CLIENTS) (events_of logs) i all.0 known,
      All-get_or (λ (log : List Event). Pairwise IsEarlier (accesses_of log)) (events_of logs) i [] known all.1,
    )

-- ## All together

pub certified_from : (logs : List (List Event)) → length logs ≤ 8 → AreLawful logs → Pairwise AreOrdered (all_accesses logs) → IsCertified logs
certified_from logs few lawful p = record {
  few = few;
  known = lawful.0;
  rising = λ k d l. by_place IsEarlier (accesses_of (get_or logs k d)) (lawful.1 k d l);
  apart = by_place AreApart (all_accesses logs) (all_apart (all_accesses logs) p);
  indexes = by_place KeepIndexes (all_accesses logs) (all_keep (all_accesses logs) p);
}

-- each log of certified ones is lawful
pub certified_lawful : (logs : List (List Event)) → IsCertified logs → AreLawful logs
certified_lawful logs c = (c.known, λ k d l. one_by_one IsEarlier (accesses_of (get_or logs k d)) (c.rising k d l))

pub certified_to : (logs : List (List Event)) → IsCertified logs → Pairwise AreOrdered (all_accesses logs)
certified_to logs c =
    all_ordered (all_accesses logs) (one_by_one AreApart (all_accesses logs) c.apart) (one_by_one KeepIndexes (all_accesses logs) c.indexes)

-- ## The logs of banks

logged_drop : (logs : List (Bor LogView)) (i : ℕ) (log : Bor LogView) → i < length logs → log ≡ get_or logs i log
    → take (i + 1) (logs_of logs) ≡ take i (logs_of logs) ++ drop log.now.forgotten log.now.events ∷ []
logged_drop [] i log lt is = absurd (omega arith)
logged_drop (x ∷ xs) zero log lt is = ap (λ (l : Bor LogView). drop l.now.forgotten l.now.events ∷ []) (sym is)
logged_drop (x ∷ xs) (suc i) log lt is = simp unary_clauses (ap (λ (ls : List (List Event)). drop x.now.forgotten x.now.events ∷ ls) (simp unary_clauses at (logged_drop xs i log (omega arith) is)))

events_push : (xs : List (Bor (List Event))) (x : Bor (List Event)) → events_of (xs ++ x ∷ []) ≡ events_of xs ++ x.now ∷ []
events_push [] x = refl
events_push (y ∷ ys) x = ap (λ (ls : List (List Event)). y.now ∷ ls) (events_push ys x)

pub pushed : (logs : List (Bor LogView)) (i : ℕ) (log : Bor LogView) (items : List (Bor (List Event))) (events : Bor (List Event))
    → i < length logs → log ≡ get_or logs i log → events_of items ≡ take i (logs_of logs) → events.now ≡ drop log.now.forgotten log.now.events
    → events_of (items ++ events ∷ []) ≡ take (i + 1) (logs_of logs)
pushed logs i log items events lt is so_far same =
    events_push items events
    ∙ (ap (λ (ls : List (List Event)). ls ++ events.now ∷ []) so_far
    ∙ (ap (λ (es : List Event). take i (logs_of logs) ++ es ∷ []) same ∙ sym (logged_drop logs i log lt is)))

-- ## The event that the next log has

module _ (logs : List (Bor (List Event))) (cursors : List ℕ) (last : List (Option Mark)) (place : ℕ) (log : Bor (List Event)) (e : Event)
    (few : length logs ≤ 8) (lt : place < length logs) (is : log ≡ get_or logs place log) (next : IsNext (events_of logs) cursors place)
    (at : e ≡ get_or log.now (get_or cursors place 0) e) (state : State (events_of logs) cursors last) where
  pub here : Split (events_of logs) cursors place e
  here = let wide = state.wide in split_at logs cursors place log e (omega arith) lt is (next_more logs cursors place log lt is next) at

  pub access_here : (a : Access) → access_of e ≡ Some a → Found (events_of logs) cursors place a
  access_here a some = found (events_of logs) cursors place e a here some (next_least logs cursors place log e lt is at next)

  pub client_here : (a : Access) → access_of e ≡ Some a → a.client < CLIENTS
  client_here a some = found_known (events_of logs) cursors last place a (access_here a some) state

  pub not_here : (a : Access) → access_of e ≡ Some a → (i : ℕ) → i ≡ a.client → (FollowsMark (get_or last i None) a → ⊥)
      → Pairwise AreOrdered (all_accesses (events_of logs)) → ⊥
  not_here a some i own never p =
      state_refuted (events_of logs) cursors last place a state (access_here a some)
      (λ follows. never (subst (λ (k : ℕ). FollowsMark (get_or last k None) a) (sym own) follows)) p

  pub state_here : (a : Access) → access_of e ≡ Some a → (i : ℕ) → i ≡ a.client → FollowsMark (get_or last i None) a
      → State (events_of logs) (set cursors place (get_or cursors place 0 + 1)) (set last i (Some (mark_of a)))
  state_here a some i own follows =
      subst (λ (k : ℕ). State (events_of logs) (set cursors place (get_or cursors place 0 + 1)) (set last k (Some (mark_of a)))) (sym own)
      (state_more (events_of logs) cursors last place a state (access_here a some)
      (subst (λ (k : ℕ). FollowsMark (get_or last k None) a) own follows))

  pub same_here : access_of e ≡ None → State (events_of logs) (set cursors place (get_or cursors place 0 + 1)) last
  same_here none = state_same (events_of logs) cursors last place e state here none
