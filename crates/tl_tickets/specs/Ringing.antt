-- The rule of a bell's word: it is the sum of what all seats rang. This is the project's own. No public clause cites this module.
use Rattle.std.specs.Prelude.{◌≡◌, ℕ, ◌+◌, ◌-◌, ◌*◌, ◌≤◌, max, List, [], ◌∷◌}
use Rattle.std.specs.List.{AllByRecursion}
use Rattle.std.specs.List.{sum_by}
use Rattle.atomic_table.specs.Table.{State, Me}
use Rattle.tl_tickets.specs.declared.tally.Tally.{Tally}
use Rattle.tl_tickets.specs.Bell.{SeatView, most_rings}

-- what so many seats know together: how often they rang, and the most that one of them has seen
abbrev pub tally : ℕ → ℕ → ℕ → Tally
tally parts rung seen = record { parts = parts; rung = rung; seen = seen }

-- what is left of a seat once another was made from it
abbrev pub fewer : Tally → Tally
fewer v = record v { parts = v.parts - 1 }

-- a new seat
abbrev pub one_seat : Tally
one_seat = tally 1 0 0

-- what two know together
abbrev pub both_tallies : Tally → Tally → Tally
both_tallies v w = tally (v.parts + w.parts) (v.rung + w.rung) (max v.seen w.seen)

-- how often all rang
abbrev pub all_rung : List Tally → ℕ
all_rung views = sum_by (λ (v : Tally). v.rung) views

-- the rule: the word is the sum of what all seats rang, no seat rang more than 2 ^ 40 times, and no seat has seen more than the word
pub record CountsRings (seats : ℕ) (s : State (Unit {0}) Tally) : Type 0 where
  pub word : s.words ≡ all_rung s.views ∷ []
  pub parts : sum_by (λ (v : Tally). v.parts) s.views ≡ seats
  pub bound : AllByRecursion (λ (v : Tally). v.rung ≤ most_rings * v.parts) s.views
  pub seen : AllByRecursion (λ (v : Tally). v.seen ≤ all_rung s.views) s.views
  pub few : seats ≤ 64

-- the seat rang once more
abbrev pub RungOnce : Me (Unit {0}) Tally → Me (Unit {0}) Tally → Type 0
RungOnce me after = after ≡ (record (me.0) { rung = me.0.rung + 1 }, me.1)

-- the seat has seen the number found, which is no less than what it had seen and what it rang
abbrev pub Hears : Me (Unit {0}) Tally → ℕ → Me (Unit {0}) Tally → Type 0
Hears me found after = (me.0.seen ≤ found) × (me.0.rung ≤ found) × (after ≡ (record (me.0) { seen = found }, me.1))

-- what all seats rang is the number found
abbrev pub HearsAll : Me (Unit {0}) Tally → ℕ → Me (Unit {0}) Tally → Type 0
HearsAll me found after = (me.0.seen ≤ found) × (me.0.rung ≡ found) × (after ≡ me)

-- what all seats know together
abbrev pub gathered_tallies : List SeatView → Tally
gathered_tallies [] = tally 0 0 0
gathered_tallies (s ∷ ss) = both_tallies (gathered_tallies ss) (tally 1 s.rung s.seen)
