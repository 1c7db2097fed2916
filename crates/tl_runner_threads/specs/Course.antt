-- How a thread goes from turn to turn, and how that ends (this project's own).
use Rattle.std.specs.Prelude.{◌≡◌, ◌+◌, ◌<◌, ℕ, zero, suc, None}
use Rattle.tl_client.specs.declared.turn.Turn.{Turn}
use Rattle.tl_client.specs.declared.turn.Turn.TheVariants.{Finished as LastTurn, Memory as NoMemory}
use Rattle.tl_tickets.specs.Bell.{after_hearing, after_ring, most_rings}
use Rattle.tl_tickets.specs.Ends.{BellEnd}
use Rattle.tl_runner_threads.specs.Ends.{end_of_turn}
use Rattle.tl_runner_threads.specs.declared.course.Course.{Course}
use Rattle.tl_runner_threads.specs.declared.workers.End.{End}
use Rattle.tl_runner_threads.specs.declared.workers.End.TheVariants.{Finished, Stopped, Stalled, Memory}

-- leave for a turn, which is one fewer of those that are left: the stop bell was heard, and had not been rung
abbrev pub HasLeave : Course → Course → Type 0
HasLeave old new = (new.left + 1 ≡ old.left) × (new.stop ≡ record old.stop { seat = after_hearing old.stop.seat 0 })

-- no leave for a turn: a ring of the stop bell was heard, or no turn was left
abbrev pub HasNoLeave : Course → End → Course → Type 0
HasNoLeave old Stopped new =
    (0 < old.left) × (new.left ≡ old.left) × (0 < new.stop.seat.seen)
    × (new.stop ≡ record old.stop { seat = after_hearing old.stop.seat new.stop.seat.seen })
HasNoLeave old Stalled new = (old.left ≡ 0) × (new ≡ old)
HasNoLeave old Finished new = ⊥
HasNoLeave old Memory new = ⊥

-- so many turns, each made with leave and none of them the last; `Made` says what a turn that came to this made of what
-- it found
abbrev pub Turns : {S : Type 0} → (S → Turn → S → Type 0) → ℕ → S → Course → S → Course → Type 0
Turns {S} Made zero before old after new = (after ≡ before) × (new ≡ old)
Turns {S} Made (suc n) before old after new =
    (between : S) × (at : Course) × (turn : Turn)
    × Turns Made n before old between at × HasLeave at new × Made between turn after × (end_of_turn turn ≡ None)

-- how they end: with a turn that is the last, all clients done or no memory for it, or with no leave for a turn
abbrev pub Ends : {S : Type 0} → (S → Turn → S → Type 0) → S → Course → S → Course → End → Type 0
Ends Made before old after new Finished = HasLeave old new × Made before LastTurn after
Ends Made before old after new Memory = HasLeave old new × Made before NoMemory after
Ends Made before old after new Stopped = HasNoLeave old Stopped new × (after ≡ before)
Ends Made before old after new Stalled = HasNoLeave old Stalled new × (after ≡ before)

-- a thread's course: its turns, one after another, and how they end
abbrev pub IsCourse : {S : Type 0} → (S → Turn → S → Type 0) → S → Course → S → Course → End → Type 0
IsCourse {S} Made before old after new end =
    (n : ℕ) × (between : S) × (at : Course) × Turns Made n before old between at × Ends Made between at after new end

-- the stop bell is rung, unless this seat has rung the most that it may
abbrev pub RingsStop : BellEnd → BellEnd → Type 0
RingsStop old new = old.seat.rung < most_rings → new ≡ record old { seat = after_ring old.seat }

-- it is rung where a thread stalled or found no memory, and only there
abbrev pub Closes : End → BellEnd → BellEnd → Type 0
Closes Finished old new = new ≡ old
Closes Stopped old new = new ≡ old
Closes Stalled old new = RingsStop old new
Closes Memory old new = RingsStop old new
