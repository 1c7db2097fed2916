-- The answers that are kept as linked lists, with one more line.
use Rattle.std.proofs.Common.{◌≡◌, ◌+◌, ◌<◌, ◌++◌, ℕ, zero, suc, Bool, true, false, cond, List, [], ◌∷◌, length, set, drop, get_or, Option, Some, None, IfSome, refl, sym, subst, ap, ◌∙◌, arith, append_assoc, BTreeMap, get_or-set_other, get_or-set_same}
use Rattle.std.proofs.lemmas.List.{drop_more, length-set}
use Rattle.std.specs.List.{slice_get}
use Rattle.tlwire_search.specs.declared.seen.Seen.{Seen}
use Rattle.tlwire_exchanges.specs.Exchange.{answered_by, answers, is_same, is_this, opened_by, opens}
use Rattle.tlwire_exchanges.specs.Opened.{AreLeft, AreWithin, HasAnswers, IsLinked, after, answer_at, answers_from, exchanges_of, first_of, joined_by, linked, number_at, opened_at, opened_from, places}
use Rattle.tlwire_exchanges.specs.declared.answers.Answers.{Answers}
use Rattle.tlwire_exchanges.specs.declared.answers.Key.{Key}
use Rattle.tlwire_exchanges.specs.declared.exchange.Exchange.{Exchange}
use Rattle.tlwire_exchanges.specs.declared.opened.Opened.{Opened}
use Rattle.tlwire_exchanges.proofs.Places.{answers_before, between, number_next}
use Rattle.tlwire_exchanges.proofs.Same.{same_is}

-- All of these are behind a place.
abbrev AreBehind : ℕ → List ℕ → Type 0
AreBehind k ps = (n p : ℕ) → slice_get ps n ≡ Some p → k < p

-- a write at a place changes nothing behind it
kept_behind : (next : List (Option ℕ)) (k : ℕ) (v o : Option ℕ) → ((p : ℕ) → o ≡ Some p → k < p)
    → after (set next k v) o ≡ after next o
kept_behind next k v None behind = refl
kept_behind next k v (Some p) behind =
    let lt : k < p = behind p refl in get_or-set_other next k p v None (λ (same : p ≡ k). omega arith)

-- so what is behind stays linked
linked_behind : (next : List (Option ℕ)) (k : ℕ) (v : Option ℕ) (ps : List ℕ) → AreBehind k ps
    → IsLinked next ps → IsLinked (set next k v) ps
linked_behind next k v ps behind had = λ n. kept_behind next k v (slice_get ps n) (behind n) ∙ had n

-- a place that leads to the first of these comes before them
linked_before : (next : List (Option ℕ)) (k : ℕ) (v : Option ℕ) (ps : List ℕ) → k < length next → v ≡ slice_get ps 0
    → IsLinked (set next k v) ps → IsLinked (set next k v) (k ∷ ps)
linked_before next k v ps lt is had zero = get_or-set_same next k v None lt ∙ is
linked_before next k v ps lt is had (suc n) = had n

-- the places of an exchange are linked, whatever one line more answers
linked_more : (first : BTreeMap Key (Option ℕ)) (next : List (Option ℕ)) (o : Option Exchange) (e : Exchange) (k : ℕ)
    (ps : List ℕ) → AreBehind k ps → k < length next → first_of first e ≡ slice_get ps 0 → IsLinked next ps
    → IsLinked (linked first o k next) (cond (is_this o e) (k ∷ ps) ps)
linked_more first next None e k ps behind lt head had = had
linked_more first next (Some f) e k ps behind lt head had = by_test (is_same f e) refl
  where
    kept : IsLinked (set next k (first_of first f)) ps
    kept = linked_behind next k (first_of first f) ps behind had

    by_test : (t : Bool) → is_same f e ≡ t → IsLinked (set next k (first_of first f)) (cond t (k ∷ ps) ps)
    by_test true same =
        linked_before next k (first_of first f) ps lt
        (ap (λ (x : Exchange). first_of first x) (same_is f e same) ∙ head) kept
    by_test false apart = kept

-- a write keeps the length
same_size : (first : BTreeMap Key (Option ℕ)) (o : Option Exchange) (k : ℕ) (next : List (Option ℕ))
    → length (linked first o k next) ≡ length next
same_size first None k next = refl
same_size first (Some f) k next = length-set next k (first_of first f)

-- the first, where one line more answers the exchange or does not
first_more : (t : Bool) (k : ℕ) (ps : List ℕ) (o : Option ℕ) → o ≡ slice_get ps 0
    → cond t (Some k) o ≡ slice_get (cond t (k ∷ ps) ps) 0
first_more true k ps o is = refl
first_more false k ps o is = is

-- the answers from a place on, with one line more before them
pub has_more : (a b : Answers) (seen : List Seen) (k : ℕ) (s : Seen) → k < length seen → s ≡ get_or seen k s
    → HasAnswers a (k + 1) seen
    → ((e : Exchange) → first_of b.first e ≡ cond (answers e s) (Some k) (first_of a.first e))
    → b.next.items ≡ linked a.first (answered_by s) k a.next.items → HasAnswers b k seen
has_more a b seen k s lt is had firsts nexts = record {
  first = λ e.
      firsts e
      ∙ (first_more (answers e s) k (answers_from e (k + 1) seen) (first_of a.first e) (had.first e)
      ∙ sym (ap (λ (ps : List ℕ). slice_get ps 0) (answers_before e seen k s lt is)));
  next = λ e.
      subst (λ (xs : List (Option ℕ)). IsLinked xs (answers_from e k seen)) (sym nexts)
      (subst (λ (ps : List ℕ). IsLinked (linked a.first (answered_by s) k a.next.items) ps)
      (sym (answers_before e seen k s lt is))
      (linked_more a.first a.next.items (answered_by s) e k (answers_from e (k + 1) seen)
      (λ n p there. omega (arith, (between (answers e) (k + 1) (drop (k + 1) seen) n p there).0))
      (omega (arith, had.sized)) (had.first e) (had.next e)));
  sized =
      ap (λ (xs : List (Option ℕ)). length xs) nexts
      ∙ (same_size a.first (answered_by s) k a.next.items ∙ had.sized);
}

-- what holds of each value of an option holds of the option
within : (o : Option ℕ) (n : ℕ) → ((p : ℕ) → o ≡ Some p → p < n) → IfSome o (λ place. place < n)
within None n lt = tt
within (Some p) n lt = lt p refl

-- the first answers are places of what was seen
pub are_within : (a : Answers) (i : ℕ) (seen : List Seen) → AreLeft a i seen → AreWithin a
are_within a i seen left = λ e.
    within (first_of a.first e) (length a.next.items) λ p there.
    omega (arith, left.sized, (between (answers e) 0 seen (number_at e i seen) p (sym (left.first e) ∙ there)).1)

-- what is left behind one more line
pub left_more : (a b : Answers) (seen : List Seen) (i : ℕ) (s : Seen) → i < length seen → s ≡ get_or seen i s
    → AreLeft a i seen
    → ((e : Exchange) → first_of b.first e
    ≡ cond (opens e s) (after a.next.items (first_of a.first e)) (first_of a.first e))
    → b.next.items ≡ a.next.items → AreLeft b (i + 1) seen
left_more a b seen i s lt is left firsts nexts = record {
  first = λ e. firsts e ∙ by_test e (opens e s) (number_next e seen i s lt is);
  next = λ e. subst (λ (xs : List (Option ℕ)). IsLinked xs (places (answers e) seen)) (sym nexts) (left.next e);
  sized = ap (λ (xs : List (Option ℕ)). length xs) nexts ∙ left.sized;
}
  where
    by_test : (e : Exchange) (t : Bool) → number_at e (i + 1) seen ≡ number_at e i seen + cond t 1 0
        → cond t (after a.next.items (first_of a.first e)) (first_of a.first e) ≡ answer_at e (i + 1) seen
    by_test e true more =
        let one : suc (number_at e i seen) ≡ number_at e (i + 1) seen = omega (arith, more) in
        ap (λ (o : Option ℕ). after a.next.items o) (left.first e)
        ∙ (left.next e (number_at e i seen) ∙ ap (λ (n : ℕ). slice_get (places (answers e) seen) n) one)
    by_test e false more =
        let same : number_at e i seen ≡ number_at e (i + 1) seen = omega (arith, more) in
        left.first e ∙ ap (λ (n : ℕ). slice_get (places (answers e) seen) n) same

-- what joins the exchanges is what is opened
joined : (a : Answers) (seen : List Seen) (i : ℕ) (o : Option Exchange) → AreLeft a i seen
    → joined_by a.first i o ≡ opened_at i o seen
joined a seen i None left = refl
joined a seen i (Some e) left =
    ap (λ (answer : Option ℕ). (let one : Opened = record { place = i; exchange = e; answer = answer } in one) ∷ [])
    (left.first e)

-- so with those of the rest they are all
pub all_more : (a : Answers) (seen : List Seen) (i : ℕ) (s : Seen) (old new : List Opened) → i < length seen
    → s ≡ get_or seen i s → AreLeft a i seen → new ≡ old ++ joined_by a.first i (opened_by s)
    → old ++ opened_from seen i (drop i seen) ≡ exchanges_of seen
    → new ++ opened_from seen (i + 1) (drop (i + 1) seen) ≡ exchanges_of seen
all_more a seen i s old new lt is left more before =
    let one : List Opened = joined_by a.first i (opened_by s) in
    let behind : List Opened = opened_from seen (i + 1) (drop (i + 1) seen) in
    let rest : drop i seen ≡ s ∷ drop (i + 1) seen =
    drop_more seen i s lt ∙ ap (λ (x : Seen). x ∷ drop (i + 1) seen) (sym is) in
    ap (λ (xs : List Opened). xs ++ behind) more
    ∙ (append_assoc old one behind
    ∙ (ap (λ (xs : List Opened). old ++ (xs ++ behind)) (joined a seen i (opened_by s) left)
    ∙ (sym (ap (λ (xs : List Seen). old ++ opened_from seen i xs) rest) ∙ before)))
