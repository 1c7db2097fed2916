-- The accesses of one log: their clients are known, and their stamps rise.
use Rattle.std.proofs.Common.{◌≡◌, ℕ, ◌+◌, ◌<◌, ◌≤◌, List, [], ◌∷◌, length, get_or, drop, All, Option, Some, None, sym, ap, ◌∙◌, subst, arith}
use Rattle.std.specs.List.{cons_option}
use Rattle.std.proofs.lemmas.List.{drop_more}
use Rattle.std.proofs.lemmas.List.Elements.{All-nil, All-cons, All-head, All-tail, All-weaker}
use Rattle.tl_types.specs.declared.limits.TheConstants.{CLIENTS}
use Rattle.tl_protocol.specs.declared.event.Access.{Access}
use Rattle.tl_protocol.specs.declared.event.Event.{Event}
use Rattle.tl_protocol.specs.OneMemory.{access_of}
use Rattle.tl_rules.specs.Certified.{accesses_of, IsEarlier}
use Rattle.tl_rules.specs.Left.{Pairwise}

-- ## The accesses of a log from an index on

-- an event that is an access
pub made_more : (log : List Event) (i : ℕ) (e : Event) (a : Access) → i < length log → e ≡ get_or log i e → access_of e ≡ Some a
    → accesses_of (drop i log) ≡ a ∷ accesses_of (drop (i + 1) log)
made_more log i e a lt is some =
    ap accesses_of (drop_more log i e lt)
    ∙ (ap (λ (x : Event). cons_option (access_of x) (accesses_of (drop (i + 1) log))) (sym is)
    ∙ ap (λ (x : Option Access). cons_option x (accesses_of (drop (i + 1) log))) some)

-- an event that is none
pub made_same : (log : List Event) (i : ℕ) (e : Event) → i < length log → e ≡ get_or log i e → access_of e ≡ None
    → accesses_of (drop i log) ≡ accesses_of (drop (i + 1) log)
made_same log i e lt is none =
    ap accesses_of (drop_more log i e lt)
    ∙ (ap (λ (x : Event). cons_option (access_of x) (accesses_of (drop (i + 1) log))) (sym is)
    ∙ ap (λ (x : Option Access). cons_option x (accesses_of (drop (i + 1) log))) none)

-- ## Rising

-- a stamp is past the last one, where there is one
abbrev pub IsPast : Option ℕ → ℕ → Type 0
IsPast None stamp = Unit {0}
IsPast (Some last) stamp = last < stamp

-- the clients are known and the stamps rise, from past the last one on
abbrev pub RisesFrom : Option ℕ → List Access → Type 0
RisesFrom last [] = Unit {0}
RisesFrom last (a ∷ rest) = (a.client < CLIENTS) × IsPast last a.stamp × RisesFrom (Some a.stamp) rest

later_past : (last : Option ℕ) (s t : ℕ) → IsPast last s → s < t → IsPast last t
later_past None s t past lt = tt
later_past (Some last) s t past lt = omega arith

pub rises_all : (last : Option ℕ) (xs : List Access) → RisesFrom last xs
    → All (λ (a : Access). a.client < CLIENTS) xs × Pairwise IsEarlier xs × All (λ (a : Access). IsPast last a.stamp) xs
rises_all last [] r = (All-nil _, tt, All-nil _)
rises_all last (a ∷ rest) r =
    let more = rises_all (Some a.stamp) rest r.2 in (
      All-cons (λ (a : Access). a.client < CLIENTS) a rest r.0 more.0,
      (more.2, more.1),
      All-cons (λ (a : Access). IsPast last a.stamp) a rest r.1
          (All-weaker (IsEarlier a) (λ (b : Access). IsPast last b.stamp) (λ b lt. later_past last a.stamp b.stamp r.1 lt) rest more.2),
    )

pub all_rises : (last : Option ℕ) (xs : List Access) → All (λ (a : Access). a.client < CLIENTS) xs → Pairwise IsEarlier xs
    → All (λ (a : Access). IsPast last a.stamp) xs → RisesFrom last xs
all_rises last [] known rising past = tt
all_rises last (a ∷ rest) known rising past = (
  All-head (λ (a : Access). a.client < CLIENTS) a rest known,
  All-head (λ (a : Access). IsPast last a.stamp) a rest past,
  all_rises (Some a.stamp) rest (All-tail (λ (a : Access). a.client < CLIENTS) a rest known) rising.1 rising.0,
)

-- from the start
pub rises_is : (xs : List Access) → RisesFrom None xs → All (λ (a : Access). a.client < CLIENTS) xs × Pairwise IsEarlier xs
rises_is xs r = let all = rises_all None xs r in (all.0, all.1)

pub is_rises : (xs : List Access) → All (λ (a : Access). a.client < CLIENTS) xs × Pairwise IsEarlier xs → RisesFrom None xs
is_rises xs h = all_rises None xs h.0 h.1 (λ k d lt. tt)

-- ## As the loop goes

-- what is left rises just where all does
pub record Same (last : Option ℕ) (log rest : List Access) : Type 0 where
  pub to : RisesFrom None log → RisesFrom last rest
  pub from : RisesFrom last rest → RisesFrom None log

pub same_more : (last : Option ℕ) (log rest more : List Access) (a : Access) → Same last log rest → rest ≡ a ∷ more
    → a.client < CLIENTS → IsPast last a.stamp → Same (Some a.stamp) log more
same_more last log rest more a same is known past = record {
  to = λ r. let got : RisesFrom last (a ∷ more) = subst (RisesFrom last) is (same.to r) in got.2;
  from = λ r. same.from (subst (RisesFrom last) (sym is) (known, past, r));
}

pub same_same : (last : Option ℕ) (log rest more : List Access) → Same last log rest → rest ≡ more → Same last log more
same_same last log rest more same is = subst (Same last log) is same

-- an access that does not follow
pub refuted : (last : Option ℕ) (log rest more : List Access) (a : Access) → Same last log rest → rest ≡ a ∷ more
    → ((a.client < CLIENTS) × IsPast last a.stamp → ⊥)
    → All (λ (a : Access). a.client < CLIENTS) log × Pairwise IsEarlier log → ⊥
refuted last log rest more a same is never all =
    let got : RisesFrom last (a ∷ more) = subst (RisesFrom last) is (same.to (is_rises log all)) in never (got.0, got.1)

-- a stamp that is not past the last
pub not_past : (last : Option ℕ) (s t : ℕ) → last ≡ Some s → t ≤ s → IsPast last t → ⊥
not_past last s t is le past = let p : IsPast (Some s) t = subst (λ (l : Option ℕ). IsPast l t) is past in omega arith

-- nothing is left
pub all_rise : (last : Option ℕ) (log rest : List Access) → Same last log rest → rest ≡ []
    → All (λ (a : Access). a.client < CLIENTS) log × Pairwise IsEarlier log
all_rise last log rest same none = rises_is log (same.from (subst (RisesFrom last) (sym none) tt))
