-- The accesses of several logs, and those of one bank among them.
use Rattle.std.proofs.Common.{◌≡◌, ℕ, zero, suc, ◌+◌, ◌<◌, Bool, true, false, cond, ◌==◌, List, [], ◌∷◌, ◌++◌, length, get_or, All, filter, Some, refl, sym, ap, ◌∙◌, arith}
use Rattle.std.proofs.lemmas.List.{append-nil}
use Rattle.std.proofs.lemmas.Bool.{cond_both, cond-true, cond-false, eq-eqb, ne_eqb}
use Rattle.std.proofs.lemmas.List.Elements.{All-nil, All-cons, All-head, All-tail, filter_map-append, filter-append}
use Rattle.tl_protocol.specs.declared.event.Access.{Access}
use Rattle.tl_protocol.specs.declared.event.Event.{Event}
use Rattle.tl_protocol.specs.declared.event.Event.TheVariants.{Load, Store}
use Rattle.tl_protocol.specs.declared.shape.Shape.{Shape}
use Rattle.tl_protocol.specs.OneMemory.{accesses, is_access, access_of}
use Rattle.tl_protocol.specs.Protocol.{block_of}
use Rattle.tl_protocol.specs.Merges.{on_bank}
use Rattle.tl_rules.specs.Certified.{accesses_of, all_accesses}
use Rattle.tl_rules.specs.Left.{Pairwise}
use Rattle.tl_rules.specs.Ordered.{log_at, joined}

-- ## Events and accesses

-- from what holds of the accesses to what holds of the events
pub down_all : (P : Access → Type 0) (Q : Event → Type 0) → ((e : Event) (a : Access) → access_of e ≡ Some a → P a → Q e)
    → (es : List Event) → All P (accesses_of es) → All Q (accesses es)
down_all P Q f [] h = All-nil Q
down_all P Q f (Load a ∷ es) h =
    All-cons Q (Load a) (accesses es) (f (Load a) a refl (All-head P a (accesses_of es) h)) (down_all P Q f es (All-tail P a (accesses_of es) h))
down_all P Q f (Store a ∷ es) h =
    All-cons Q (Store a) (accesses es) (f (Store a) a refl (All-head P a (accesses_of es) h)) (down_all P Q f es (All-tail P a (accesses_of es) h))
down_all P Q f (e ∷ es) h = down_all P Q f es h

pub down_pairs : (R : Access → Access → Type 0) (S : Event → Event → Type 0)
    → ((e g : Event) (a b : Access) → access_of e ≡ Some a → access_of g ≡ Some b → R a b → S e g)
    → (es : List Event) → Pairwise R (accesses_of es) → Pairwise S (accesses es)
down_pairs R S f [] p = tt
down_pairs R S f (Load a ∷ es) p =
    (down_all (R a) (S (Load a)) (λ g b is r. f (Load a) g a b refl is r) es p.0, down_pairs R S f es p.1)
down_pairs R S f (Store a ∷ es) p =
    (down_all (R a) (S (Store a)) (λ g b is r. f (Store a) g a b refl is r) es p.0, down_pairs R S f es p.1)
down_pairs R S f (e ∷ es) p = down_pairs R S f es p

-- and back
pub up_all : (P : Access → Type 0) (Q : Event → Type 0) → ((e : Event) (a : Access) → access_of e ≡ Some a → Q e → P a)
    → (es : List Event) → All Q es → All P (accesses_of es)
up_all P Q f [] h = All-nil P
up_all P Q f (Load a ∷ es) h =
    All-cons P a (accesses_of es) (f (Load a) a refl (All-head Q (Load a) es h)) (up_all P Q f es (All-tail Q (Load a) es h))
up_all P Q f (Store a ∷ es) h =
    All-cons P a (accesses_of es) (f (Store a) a refl (All-head Q (Store a) es h)) (up_all P Q f es (All-tail Q (Store a) es h))
up_all P Q f (e ∷ es) h = up_all P Q f es (All-tail Q e es h)

pub up_pairs : (R : Access → Access → Type 0) (S : Event → Event → Type 0)
    → ((e g : Event) (a b : Access) → access_of e ≡ Some a → access_of g ≡ Some b → S e g → R a b)
    → (es : List Event) → Pairwise S es → Pairwise R (accesses_of es)
up_pairs R S f [] p = tt
up_pairs R S f (Load a ∷ es) p =
    (up_all (R a) (S (Load a)) (λ g b is r. f (Load a) g a b refl is r) es p.0, up_pairs R S f es p.1)
up_pairs R S f (Store a ∷ es) p =
    (up_all (R a) (S (Store a)) (λ g b is r. f (Store a) g a b refl is r) es p.0, up_pairs R S f es p.1)
up_pairs R S f (e ∷ es) p = up_pairs R S f es p.1

-- ## All logs

pub made_joined : (logs : List (List Event)) → accesses_of (joined logs) ≡ all_accesses logs
made_joined [] = refl
made_joined (log ∷ logs) =
    filter_map-append access_of log (joined logs) ∙ ap (λ (xs : List Access). accesses_of log ++ xs) (made_joined logs)

cond_more : (t : Bool) (e : Event) (xs ys : List Event) → cond t (e ∷ (xs ++ ys)) (xs ++ ys) ≡ cond t (e ∷ xs) xs ++ ys
cond_more true e xs ys = refl
cond_more false e xs ys = refl

accesses_more : (xs ys : List Event) → accesses (xs ++ ys) ≡ accesses xs ++ accesses ys
accesses_more [] ys = refl
accesses_more (e ∷ es) ys =
    ap (λ (zs : List Event). cond (is_access e) (e ∷ zs) zs) (accesses_more es ys)
    ∙ cond_more (is_access e) e (accesses es) (accesses ys)

pub accesses_all : (P : Event → Type 0) (es : List Event) → All P es → All P (accesses es)
accesses_all P [] h = h
accesses_all P (e ∷ es) h =
    cond_both (is_access e) (e ∷ accesses es) (accesses es) (All P)
    (λ _. All-cons P e (accesses es) (All-head P e es h) (accesses_all P es (All-tail P e es h)))
    (λ _. accesses_all P es (All-tail P e es h))

-- ## One bank

keep_all : (q : Event → Bool) (es : List Event) → All (λ e. q e ≡ true) es → filter q es ≡ es
keep_all q [] h = refl
keep_all q (e ∷ es) h =
    cond-true (q e) (e ∷ filter q es) (filter q es) (All-head (λ x. q x ≡ true) e es h)
    ∙ ap (λ (xs : List Event). e ∷ xs) (keep_all q es (All-tail (λ x. q x ≡ true) e es h))

keep_none : (q : Event → Bool) (es : List Event) → All (λ e. q e ≡ false) es → filter q es ≡ []
keep_none q [] h = refl
keep_none q (e ∷ es) h =
    cond-false (q e) (e ∷ filter q es) (filter q es) (All-head (λ x. q x ≡ false) e es h)
    ∙ keep_none q es (All-tail (λ x. q x ≡ false) e es h)

module _ (shape : Shape) (bank_of : ℕ → ℕ) where
  -- whether an event is of a bank
  abbrev pub is_of : ℕ → Event → Bool
  is_of bank e = bank == bank_of (block_of shape e)

  pub bank_is_filter : (bank : ℕ) (es : List Event) → on_bank shape bank_of bank es ≡ filter (is_of bank) es
  bank_is_filter bank [] = refl
  bank_is_filter bank (e ∷ es) = ap (λ (xs : List Event). cond (is_of bank e) (e ∷ xs) xs) (bank_is_filter bank es)

  -- the log at index i is of the bank k + i
  abbrev AreOf : ℕ → List (List Event) → Type 0
  AreOf k logs = (i : ℕ) → i < length logs → All (λ e. bank_of (block_of shape e) ≡ k + i) (log_at logs i)

  own : (k bank : ℕ) (log : List Event) → All (λ e. bank_of (block_of shape e) ≡ k) log → bank ≡ k → filter (is_of bank) (accesses log) ≡ accesses log
  own k bank log h is =
      keep_all (is_of bank) (accesses log)
      (accesses_all (λ e. is_of bank e ≡ true) log (λ i d l. eq-eqb bank (bank_of (block_of shape (get_or log i d))) (is ∙ sym (h i d l))))

  other : (k bank : ℕ) (log : List Event) → All (λ e. bank_of (block_of shape e) ≡ k) log → (bank ≡ k → ⊥) → filter (is_of bank) (accesses log) ≡ []
  other k bank log h not_it =
      keep_none (is_of bank) (accesses log)
      (accesses_all (λ e. is_of bank e ≡ false) log (λ i d l. ne_eqb bank (bank_of (block_of shape (get_or log i d))) (λ e. not_it (e ∙ h i d l))))

  first : (k : ℕ) (log : List Event) (logs : List (List Event)) → AreOf k (log ∷ logs) → All (λ e. bank_of (block_of shape e) ≡ k) log
  first k log logs h = λ i d l. let at : bank_of (block_of shape (get_or log i d)) ≡ k + 0 = h 0 (omega arith) i d l in omega arith

  rest : (k : ℕ) (log : List Event) (logs : List (List Event)) → AreOf k (log ∷ logs) → AreOf (k + 1) logs
  rest k log logs h = λ j lt i d l. let at : bank_of (block_of shape (get_or (log_at logs j) i d)) ≡ k + suc j = h (suc j) (omega arith) i d l in omega arith

  parts : (bank : ℕ) (log : List Event) (logs : List (List Event))
      → filter (is_of bank) (accesses (joined (log ∷ logs))) ≡ filter (is_of bank) (accesses log) ++ filter (is_of bank) (accesses (joined logs))
  parts bank log logs = ap (filter (is_of bank)) (accesses_more log (joined logs)) ∙ filter-append (is_of bank) (accesses log) (accesses (joined logs))

  none_of_bank : (logs : List (List Event)) (k bank : ℕ) → AreOf k logs → bank < k → filter (is_of bank) (accesses (joined logs)) ≡ []
  none_of_bank [] k bank h lt = refl
  none_of_bank (log ∷ logs) k bank h lt =
      parts bank log logs
      ∙ (ap (λ (xs : List Event). xs ++ filter (is_of bank) (accesses (joined logs))) (other k bank log (first k log logs h) (λ e. omega arith))
      ∙ none_of_bank logs (k + 1) bank (rest k log logs h) (omega arith))

  pub of_bank : (logs : List (List Event)) (k bank j : ℕ) → AreOf k logs → bank ≡ k + j
      → filter (is_of bank) (accesses (joined logs)) ≡ accesses (log_at logs j)
  of_bank [] k bank j h is = refl
  of_bank (log ∷ logs) k bank zero h is =
      parts bank log logs
      ∙ (ap (λ (xs : List Event). xs ++ filter (is_of bank) (accesses (joined logs))) (own k bank log (first k log logs h) (omega arith))
      ∙ (ap (λ (xs : List Event). accesses log ++ xs) (none_of_bank logs (k + 1) bank (rest k log logs h) (omega arith))
      ∙ append-nil (accesses log)))
  of_bank (log ∷ logs) k bank (suc j) h is =
      parts bank log logs
      ∙ (ap (λ (xs : List Event). xs ++ filter (is_of bank) (accesses (joined logs))) (other k bank log (first k log logs h) (λ e. omega arith))
      ∙ of_bank logs (k + 1) bank j (rest k log logs h) (omega arith))
