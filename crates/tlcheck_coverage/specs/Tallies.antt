-- The tallies of records, one for each number of clients (this project's own).
use Rattle.std.specs.Prelude.{◌≡◌, ◌≢◌, ◌⊎◌, ℕ, List, [], ◌∷◌, ◌++◌, length, Bool, IsTrue, IsFalse, Option, Some, None, IsSomeAnd, slice_get}
use Rattle.tl_protocol.specs.declared.event.Event.{Event}
use Rattle.tl_protocol.specs.declared.shape.Shape.{Shape}
use Rattle.tlcheck_rules.specs.Judged.{JudgeState}
use Rattle.tlcheck_rules.specs.declared.entry.Entry.{Entry}
use Rattle.tlcheck_rules.specs.declared.order.ChannelOrder.{ChannelOrder}
use Rattle.tlcheck_situations.specs.Reach.{HasEvery}
use Rattle.tlcheck_home.specs.Home.{AreThoseOfHome}
use Rattle.tlcheck_home.specs.HomeTableState.{HomeTableState}
use Rattle.tlcheck_home.specs.Tally.{IsSeen, IsUncounted, TallyState}
use Rattle.tlcheck_home.specs.declared.tally.Mark.{Mark}

-- whether they have the table of what this project's home reaches, and the tallies, in the order of their making
pub record TalliesState : Type 0 where
  pub by_home : Bool
  pub tallies : List TallyState

-- the table of what this project's home reaches with so many clients, exactly where it is asked for
abbrev pub HasHome : Bool → ℕ → Option HomeTableState → Type 0
HasHome by_home n None = IsFalse by_home
HasHome by_home n (Some home) = IsTrue by_home × AreThoseOfHome n home.situations

-- A tally's table has every situation of its clients' runs, and what this project's home reaches if it is asked for.
pub record HasTables (by_home : Bool) (tally : TallyState) : Type 0 where
  pub every : HasEvery tally.clients tally.situations
  pub home : HasHome by_home tally.clients tally.home

-- the tally at a place is of so many clients
abbrev pub IsOf : ℕ → ℕ → List TallyState → Type 0
IsOf n place tallies = IsSomeAnd (slice_get tallies place) (λ tally. tally.clients ≡ n)

-- no tally is of so many clients, and one that counts nothing joins them
pub record Joins (n : ℕ) (old new : List TallyState) : Type 0 where
  pub none : (place : ℕ) → IsOf n place old → ⊥
  pub tally : TallyState
  pub uncounted : IsUncounted tally
  pub joined : new ≡ old ++ tally ∷ []

-- The tally of so many clients stands at a place: it stood there, or there was none and it is made.
pub record Opens (n place : ℕ) (old new : TalliesState) : Type 0 where
  pub by_home : new.by_home ≡ old.by_home
  pub there : IsOf n place new.tallies
  pub made : (new.tallies ≡ old.tallies) ⊎ Joins n old.tallies new.tallies

-- The tally at a place is this one, and the others are as they were.
pub record IsChangedAt (place : ℕ) (tally : TallyState) (old new : TalliesState) : Type 0 where
  pub by_home : new.by_home ≡ old.by_home
  pub size : length new.tallies ≡ length old.tallies
  pub here : slice_get new.tallies place ≡ Some tally
  pub others : (k : ℕ) → k ≢ place → slice_get new.tallies k ≡ slice_get old.tallies k

-- An entry is permitted after a log, and counted over the tally at a place.
pub record SeesAt (place : ℕ) (order : ChannelOrder) (shape : Shape) (image : List ℕ) (log : List Event) (entry : Entry) (mark : Mark) (judge : JudgeState) (old new : TalliesState) : Type 0 where
  pub tally : TallyState
  pub there : slice_get old.tallies place ≡ Some tally
  pub then_ : TallyState
  pub seen : IsSeen order shape image log entry mark judge tally then_
  pub changes : IsChangedAt place then_ old new
