-- Tallies: the one that is opened, and the one that is changed.
use Rattle.std.proofs.Common.{◌≡◌, ◌≢◌, inl, inr, ◌<◌, ℕ, zero, suc, List, [], ◌∷◌, ◌++◌, length, set, get_or, Option, Some, None, IsSomeAnd, Result, Ok, Err, OnOk, refl, ◌∙◌, ap, arith}
use Rattle.std.proofs.lemmas.Option.{slice_get_within, slice_get_read}
use Rattle.std.specs.Prelude.{slice_get}
use Rattle.tl_protocol.specs.declared.event.Event.{Event}
use Rattle.tl_protocol.specs.declared.shape.Shape.{Shape}
use Rattle.tlcheck_home.specs.Tally.{IsSeen, IsUncounted, TallyState}
use Rattle.tlcheck_home.specs.declared.tally.Mark.{Mark}
use Rattle.tlcheck_rules.specs.Judged.{JudgeState}
use Rattle.tlcheck_rules.specs.declared.entry.Entry.{Entry}
use Rattle.tlcheck_rules.specs.declared.order.ChannelOrder.{ChannelOrder}
use Rattle.tlcheck_coverage.specs.Tallies.{IsChangedAt, IsOf, Opens, SeesAt, TalliesState}

-- ## A list with one place changed

here : {X : Type 0} (xs : List X) (i : ℕ) (x : X) → i < length xs → slice_get (set xs i x) i ≡ Some x
here [] i x h = absurd (omega arith)
here (y ∷ ys) zero x h = refl
here (y ∷ ys) (suc i) x h = here ys i x (omega arith)

others : {X : Type 0} (xs : List X) (i : ℕ) (x : X) (k : ℕ) → k ≢ i → slice_get (set xs i x) k ≡ slice_get xs k
others [] i x k h = refl
others (y ∷ ys) zero x zero h = absurd (h refl)
others (y ∷ ys) zero x (suc k) h = refl
others (y ∷ ys) (suc i) x zero h = refl
others (y ∷ ys) (suc i) x (suc k) h = others ys i x k (λ e. h (ap suc e))

sized : {X : Type 0} (xs : List X) (i : ℕ) (x : X) → length (set xs i x) ≡ length xs
sized [] i x = refl
sized (y ∷ ys) zero x = refl
sized (y ∷ ys) (suc i) x = omega (arith, sized ys i x)

last : {X : Type 0} (xs : List X) (x : X) → slice_get (xs ++ x ∷ []) (length xs) ≡ Some x
last [] x = refl
last (y ∷ ys) x = last ys x

-- ## The tally at a place

-- what stands at one place is one thing
pub is_there : (s : TalliesState) (place : ℕ) (a b : TallyState) → slice_get s.tallies place ≡ Some a → slice_get s.tallies place ≡ Some b → a ≡ b
is_there s place a b x y = cc

-- nothing is changed
pub stays_at : (place : ℕ) (tally : TallyState) (s : TalliesState) → slice_get s.tallies place ≡ Some tally → IsChangedAt place tally s s
stays_at place tally s at = record { by_home = refl; size = refl; here = at; others = λ k h. refl }

-- it is changed twice
pub then_at : (place : ℕ) (a b : TallyState) (old mid new : TalliesState) → IsChangedAt place a old mid → IsChangedAt place b mid new
    → IsChangedAt place b old new
then_at place a b old mid new x y = record {
  by_home = y.by_home ∙ x.by_home;
  size = y.size ∙ x.size;
  here = y.here;
  others = λ k h. y.others k h ∙ x.others k h;
}

-- it is changed by what is written there
pub changed_at : (place : ℕ) (tally : TallyState) (old new : TalliesState) → place < length old.tallies → new.by_home ≡ old.by_home
    → new.tallies ≡ set old.tallies place tally → IsChangedAt place tally old new
changed_at place tally old new inside home is = record {
  by_home = home;
  size = ap (λ (ts : List TallyState). length ts) is ∙ sized old.tallies place tally;
  here = ap (λ (ts : List TallyState). slice_get ts place) is ∙ here old.tallies place tally inside;
  others = λ k h. ap (λ (ts : List TallyState). slice_get ts k) is ∙ others old.tallies place tally k h;
}

-- ## Opening

-- a tally that stands there already
pub opens_known : (n place : ℕ) (s : TalliesState) → IsOf n place s.tallies → Opens n place s s
opens_known n place s there = record { by_home = refl; there = there; made = inl refl }

of_some : (o : Option TallyState) (tally : TallyState) (n : ℕ) → o ≡ Some tally → tally.clients ≡ n → IsSomeAnd o (λ (t : TallyState). t.clients ≡ n)
of_some None tally n e same = cc
of_some (Some t) tally n e same =
    let is : t ≡ tally = cc in
    ap (λ (x : TallyState). x.clients) is ∙ same

-- a tally of so many clients at a place
pub is_of : (n place : ℕ) (tallies : List TallyState) (tally : TallyState) → slice_get tallies place ≡ Some tally → tally.clients ≡ n → IsOf n place tallies
is_of n place tallies tally at same = of_some (slice_get tallies place) tally n at same

some_of : (o : Option TallyState) (n : ℕ) → IsSomeAnd o (λ (t : TallyState). t.clients ≡ n) → ((t : TallyState) × (o ≡ Some t) × (t.clients ≡ n))
some_of None n h = absurd h
some_of (Some t) n h = (t, refl, h)

-- the tally that is at a place of so many clients
pub tally_of : (n place : ℕ) (tallies : List TallyState) → IsOf n place tallies → ((t : TallyState) × (slice_get tallies place ≡ Some t) × (t.clients ≡ n))
tally_of n place tallies h = some_of (slice_get tallies place) n h

-- a place with a tally is one of the list
pub of_within : (n place : ℕ) (tallies : List TallyState) → IsOf n place tallies → place < length tallies
of_within n place tallies h =
    let t = tally_of n place tallies h in
    slice_get_within tallies place t.0 t.1

-- a tally of another number of clients
pub not_of : (n place : ℕ) (tallies : List TallyState) (tally : TallyState) → place < length tallies → tally ≡ get_or tallies place tally
    → (tally.clients ≡ n → ⊥) → IsOf n place tallies → ⊥
not_of n place tallies tally inside at other h =
    let t = tally_of n place tallies h in
    let stands : slice_get tallies place ≡ Some tally = slice_get_read tallies (length tallies) place tally refl inside at in
    let is : tally ≡ t.0 = cc in
    other (ap (λ (x : TallyState). x.clients) is ∙ t.2)

-- one that joins them
pub opens_made : (n place : ℕ) (old new : TalliesState) (tally : TallyState) → ((k : ℕ) → IsOf n k old.tallies → ⊥) → tally.clients ≡ n
    → IsUncounted tally → place ≡ length old.tallies → new.by_home ≡ old.by_home → new.tallies ≡ old.tallies ++ tally ∷ [] → Opens n place old new
opens_made n place old new tally none same uncounted at home is =
    let stands : slice_get new.tallies place ≡ Some tally =
    ap (λ (ts : List TallyState). slice_get ts place) is ∙ ap (λ (k : ℕ). slice_get (old.tallies ++ tally ∷ []) k) at ∙ last old.tallies tally in
    record {
      by_home = home;
      there = is_of n place new.tallies tally stands same;
      made = inr (record { none = none; tally = tally; uncounted = uncounted; joined = is });
    }

-- ## What is seen

-- an entry that was seen over the tally that stood at a place
pub sees_at : (place : ℕ) (order : ChannelOrder) (shape : Shape) (image : List ℕ) (log : List Event) (entry : Entry) (mark : Mark) (judge : JudgeState)
    (tally then_ : TallyState) (old new : TalliesState) → place < length old.tallies → tally ≡ get_or old.tallies place tally
    → new.by_home ≡ old.by_home → new.tallies ≡ set old.tallies place then_ → IsSeen order shape image log entry mark judge tally then_
    → SeesAt place order shape image log entry mark judge old new
sees_at place order shape image log entry mark judge tally then_ old new inside at home is seen = record {
  tally = tally;
  there = slice_get_read old.tallies (length old.tallies) place tally refl inside at;
  then_ = then_;
  seen = seen;
  changes = changed_at place then_ old new inside home is;
}

-- what follows of what holds of a result that is Ok
pub on_ok : {T E : Type 0} (r : Result T E) (P Q : Type 0) → (P → Q) → OnOk r P → OnOk r Q
on_ok (Ok x) P Q f p = f p
on_ok (Err e) P Q f p = p
