-- The accesses of several logs, taken in the order of their stamps.
use Rattle.std.proofs.Common.{◌≡◌, ◌≢◌, ℕ, zero, suc, ◌<◌, ◌≤◌, inl, inr, ⊎_elim, List, [], ◌∷◌, ◌++◌, length, get_or, set, replicate, All, Option, Some, None, refl, sym, ap, ◌∙◌, subst, arith, get_or-set_same, get_or-set_other}
use Rattle.std.proofs.lemmas.List.Elements.{All-nil, All-cons, All-head, All-tail, All-append}
use Rattle.std.proofs.lemmas.Bool.{cases_order, cases_eq}
use Rattle.tl_protocol.specs.declared.event.Access.{Access}
use Rattle.tl_rules.specs.declared.merge.Mark.{Mark}
use Rattle.tl_rules.specs.Certified.{AreApart, KeepIndexes}
use Rattle.tl_rules.specs.Left.{Pairwise}
use Rattle.tl_rules.specs.Left.{IsBefore, AreOrdered, FollowsMark}

-- ## Two accesses of one client

ordered_sym : (a b : Access) → AreOrdered a b → AreOrdered b a
ordered_sym a b h e = ⊎_elim (λ (p : IsBefore a b). inr p) (λ (p : IsBefore b a). inl p) (h (sym e))

ordered : (a b : Access) → AreApart a b → KeepIndexes a b → AreOrdered a b
ordered a b apart keep e =
    let both = keep e in
    ⊎_elim (λ (same : a.stamp ≡ b.stamp). absurd (apart same e))
    (⊎_elim (λ (l : a.stamp < b.stamp). inl (l, both.0 l)) (λ (l : b.stamp < a.stamp). inr (l, both.1 l)))
    (cases_order a.stamp b.stamp)

apart_is : (a b : Access) → AreOrdered a b → AreApart a b
apart_is a b h same e = ⊎_elim (λ (p : IsBefore a b). let l : a.stamp < b.stamp = p.0 in omega arith) (λ (p : IsBefore b a). let l : b.stamp < a.stamp = p.0 in omega arith) (h e)

keep_is : (a b : Access) → AreOrdered a b → KeepIndexes a b
keep_is a b h e = (
  λ l. ⊎_elim (λ (p : IsBefore a b). p.1) (λ (p : IsBefore b a). let m : b.stamp < a.stamp = p.0 in absurd (omega arith)) (h e),
  λ l. ⊎_elim (λ (p : IsBefore a b). let m : a.stamp < b.stamp = p.0 in absurd (omega arith)) (λ (p : IsBefore b a). p.1) (h e),
)

pub all_ordered : (xs : List Access) → Pairwise AreApart xs → Pairwise KeepIndexes xs → Pairwise AreOrdered xs
all_ordered [] p q = tt
all_ordered (x ∷ xs) p q =
    (λ k d l. ordered x (get_or xs k d) (p.0 k d l) (q.0 k d l), all_ordered xs p.1 q.1)

pub all_apart : (xs : List Access) → Pairwise AreOrdered xs → Pairwise AreApart xs
all_apart [] p = tt
all_apart (x ∷ xs) p = (λ k d l. apart_is x (get_or xs k d) (p.0 k d l), all_apart xs p.1)

pub all_keep : (xs : List Access) → Pairwise AreOrdered xs → Pairwise KeepIndexes xs
all_keep [] p = tt
all_keep (x ∷ xs) p = (λ k d l. keep_is x (get_or xs k d) (p.0 k d l), all_keep xs p.1)

-- ## One element among others

-- what holds of each of two lists joined holds of each
pub all_parts : {X : Type 0} (P : X → Type 0) (xs ys : List X) → All P (xs ++ ys) → All P xs × All P ys
all_parts P [] ys h = (All-nil P, h)
all_parts P (x ∷ xs) ys h =
    let rest = all_parts P xs ys (All-tail P x (xs ++ ys) h) in (All-cons P x xs (All-head P x (xs ++ ys) h) rest.0, rest.1)

pub all_without : {X : Type 0} (P : X → Type 0) (xs : List X) (a : X) (ys : List X) → All P (xs ++ a ∷ ys) → P a × All P (xs ++ ys)
all_without P xs a ys h =
    let parts = all_parts P xs (a ∷ ys) h in
    (All-head P a ys parts.1, All-append P xs ys parts.0 (All-tail P a ys parts.1))

pub all_with : {X : Type 0} (P : X → Type 0) (xs : List X) (a : X) (ys : List X) → P a → All P (xs ++ ys) → All P (xs ++ a ∷ ys)
all_with P xs a ys p h =
    let parts = all_parts P xs ys h in All-append P xs (a ∷ ys) parts.0 (All-cons P a ys p parts.1)

pub pull : {X : Type 0} (R : X → X → Type 0) → ((x y : X) → R x y → R y x) → (xs : List X) (a : X) (ys : List X)
    → Pairwise R (xs ++ a ∷ ys) → All (R a) (xs ++ ys) × Pairwise R (xs ++ ys)
pull R s [] a ys p = p
pull R s (x ∷ xs) a ys p =
    let rest = pull R s xs a ys p.1 in
    let own = all_without (R x) xs a ys p.0 in
    (All-cons (R a) x (xs ++ ys) (s x a own.0) rest.0, (own.1, rest.1))

pub put_back : {X : Type 0} (R : X → X → Type 0) → ((x y : X) → R x y → R y x) → (xs : List X) (a : X) (ys : List X)
    → All (R a) (xs ++ ys) → Pairwise R (xs ++ ys) → Pairwise R (xs ++ a ∷ ys)
put_back R s [] a ys h p = (h, p)
put_back R s (x ∷ xs) a ys h p =
    (all_with (R x) xs a ys (s a x (All-head (R a) x (xs ++ ys) h)) p.0, put_back R s xs a ys (All-tail (R a) x (xs ++ ys) h) p.1)

-- ## What was taken last of each client

abbrev pub Follows : List (Option Mark) → Access → Type 0
Follows last a = FollowsMark (get_or last a.client None) a

-- what is taken
abbrev pub mark_of : Access → Mark
mark_of a = record { stamp = a.stamp; index = a.index }

-- what follows a mark that follows another
follows_both : (m : Option Mark) (a b : Access) → FollowsMark m a → IsBefore a b → FollowsMark m b
follows_both None a b f h = tt
follows_both (Some m) a b f h = (omega arith, omega arith)

-- of the same client
to_same : (last : List (Option Mark)) (a b : Access) → a.client ≡ b.client → a.client < length last → a.stamp ≤ b.stamp
    → AreOrdered a b → Follows (set last a.client (Some (mark_of a))) b
to_same last a b e known le h =
    let at : get_or (set last a.client (Some (mark_of a))) b.client None ≡ Some (mark_of a) =
    ap (λ (k : ℕ). get_or (set last a.client (Some (mark_of a))) k None) (sym e) ∙ get_or-set_same last a.client (Some (mark_of a)) None known in
    subst (λ (m : Option Mark). FollowsMark m b) (sym at)
    (⊎_elim (λ (p : IsBefore a b). p) (λ (p : IsBefore b a). let l : b.stamp < a.stamp = p.0 in absurd (omega arith)) (h e))

from_same : (last : List (Option Mark)) (a b : Access) → a.client ≡ b.client → a.client < length last → Follows last a
    → Follows (set last a.client (Some (mark_of a))) b → AreOrdered a b × Follows last b
from_same last a b e known f g =
    let at : get_or (set last a.client (Some (mark_of a))) b.client None ≡ Some (mark_of a) =
    ap (λ (k : ℕ). get_or (set last a.client (Some (mark_of a))) k None) (sym e) ∙ get_or-set_same last a.client (Some (mark_of a)) None known in
    let after : IsBefore a b = subst (λ (m : Option Mark). FollowsMark m b) at g in
    let own : FollowsMark (get_or last b.client None) a = subst (λ (k : ℕ). FollowsMark (get_or last k None) a) e f in
    (λ _. inl after, follows_both (get_or last b.client None) a b own after)

-- of another client
other_same : (last : List (Option Mark)) (a b : Access) → a.client ≢ b.client
    → get_or (set last a.client (Some (mark_of a))) b.client None ≡ get_or last b.client None
other_same last a b n = get_or-set_other last a.client b.client (Some (mark_of a)) None (λ e. n (sym e))

-- once it is taken, another follows just where it is in order with it and followed before
follows_on : (last : List (Option Mark)) (a b : Access) → a.client < length last → a.stamp ≤ b.stamp → AreOrdered a b → Follows last b
    → Follows (set last a.client (Some (mark_of a))) b
follows_on last a b known le h f =
    elim (cases_eq a.client b.client) [
      | inl e ↦ to_same last a b e known le h
      | inr n ↦ subst (λ (m : Option Mark). FollowsMark m b) (sym (other_same last a b n)) f
    ]

followed : (last : List (Option Mark)) (a b : Access) → a.client < length last → Follows last a
    → Follows (set last a.client (Some (mark_of a))) b → AreOrdered a b × Follows last b
followed last a b known own f =
    elim (cases_eq a.client b.client) [
      | inl e ↦ from_same last a b e known own f
      | inr n ↦ ((λ e. absurd (n e)), subst (λ (m : Option Mark). FollowsMark m b) (other_same last a b n) f)
    ]

-- ## As the loop goes

-- all accesses are in order just where those that are left are, and follow what was taken
pub record Alike (last : List (Option Mark)) (all rest : List Access) : Type 0 where
  pub to : Pairwise AreOrdered all → Pairwise AreOrdered rest × All (Follows last) rest
  pub from : Pairwise AreOrdered rest × All (Follows last) rest → Pairwise AreOrdered all

none_at : (mark : Option Mark) (n i : ℕ) → get_or (replicate n mark) i mark ≡ mark
none_at mark zero i = refl
none_at mark (suc n) zero = refl
none_at mark (suc n) (suc i) = none_at mark n i

-- at first nothing was taken
pub alike_first : (n : ℕ) (all : List Access) → Alike (replicate n None) all all
alike_first n all = record {
  to = λ p. (p, λ k d l. subst (λ (m : Option Mark). FollowsMark m (get_or all k d)) (sym (none_at None n (get_or all k d).client)) tt);
  from = λ p. p.0;
}

-- an access with the least stamp is taken
pub alike_more : (last : List (Option Mark)) (all front : List Access) (a : Access) (back : List Access) → Alike last all (front ++ a ∷ back)
    → a.client < length last → Follows last a → All (λ (b : Access). a.stamp ≤ b.stamp) (front ++ back)
    → Alike (set last a.client (Some (mark_of a))) all (front ++ back)
alike_more last all front a back alike known own least = record {
  to = λ p.
      let got = alike.to p in
      let pair = pull AreOrdered ordered_sym front a back got.0 in
      let rest = all_without (Follows last) front a back got.1 in
      (pair.1, λ k d l. follows_on last a (get_or (front ++ back) k d) known (least k d l) (pair.0 k d l) (rest.1 k d l));
  from = λ p. alike.from (
    put_back AreOrdered ordered_sym front a back (λ k d l. (followed last a (get_or (front ++ back) k d) known own (p.1 k d l)).0) p.0,
    all_with (Follows last) front a back own (λ k d l. (followed last a (get_or (front ++ back) k d) known own (p.1 k d l)).1),
  );
}

-- one that does not follow
pub not_alike : (last : List (Option Mark)) (all front : List Access) (a : Access) (back : List Access) → Alike last all (front ++ a ∷ back)
    → (Follows last a → ⊥) → Pairwise AreOrdered all → ⊥
not_alike last all front a back alike never p = never (all_without (Follows last) front a back (alike.to p).1).0

-- nothing is left
pub alike_last : (last : List (Option Mark)) (all rest : List Access) → Alike last all rest → rest ≡ [] → Pairwise AreOrdered all
alike_last last all rest alike none =
    alike.from (subst (λ (xs : List Access). Pairwise AreOrdered xs × All (Follows last) xs) (sym none) (tt, All-nil (Follows last)))
