-- How a course goes on, and how it ends.
use Rattle.std.proofs.Common.{◌≡◌, ◌<◌, ◌≤◌, ℕ, suc, None, Some, refl, sym, ap, arith}
use Rattle.tl_client.specs.declared.turn.Turn.{Turn}
use Rattle.tl_client.specs.declared.turn.Turn.TheVariants.{Worked, Idle, Finished as LastTurn, Memory as NoMemory}
use Rattle.tl_tickets.specs.Ends.{BellEnd}
use Rattle.tl_runner_threads.specs.declared.course.Course.{Course}
use Rattle.tl_runner_threads.specs.declared.workers.End.{End}
use Rattle.tl_runner_threads.specs.declared.workers.End.TheVariants.{Finished, Stopped, Stalled, Memory}
use Rattle.tl_runner_threads.specs.Ends.{end_of_turn}
use Rattle.tl_runner_threads.specs.Course.{HasLeave, HasNoLeave, IsCourse, Turns}

module _ {S : Type 0} (Made : S → Turn → S → Type 0) where
  -- some turns, one after another
  abbrev pub SomeTurns : S → Course → S → Course → Type 0
  SomeTurns before old after new = (n : ℕ) × Turns Made n before old after new

  -- one turn more, which was not the last
  pub turns-more : (before between after : S) (old at new : Course) (turn : Turn) → SomeTurns before old between at
      → HasLeave at new → Made between turn after → None ≡ end_of_turn turn → SomeTurns before old after new
  turns-more before between after old at new turn were leave made none =
      (suc were.0, (between, at, turn, were.1, leave, made, sym none))

  -- no leave for another turn ends it
  pub ends-without : (before after : S) (old at new : Course) (end : End) → SomeTurns before old after at
      → HasNoLeave at end new → IsCourse Made before old after new end
  ends-without before after old at new Stopped were none = (were.0, after, at, were.1, (none, refl))
  ends-without before after old at new Stalled were none = (were.0, after, at, were.1, (none, refl))
  ends-without before after old at new Finished were none = absurd none
  ends-without before after old at new Memory were none = absurd none

  -- a turn that is the last ends it
  pub ends-with : (before between after : S) (old at new : Course) (turn : Turn) (end : End)
      → SomeTurns before old between at → HasLeave at new → Made between turn after → Some end ≡ end_of_turn turn
      → IsCourse Made before old after new end
  ends-with before between after old at new LastTurn Finished were leave made is =
      (were.0, between, at, were.1, (leave, made))
  ends-with before between after old at new NoMemory Memory were leave made is =
      (were.0, between, at, were.1, (leave, made))
  ends-with before between after old at new LastTurn Stopped were leave made is = cc
  ends-with before between after old at new LastTurn Stalled were leave made is = cc
  ends-with before between after old at new LastTurn Memory were leave made is = cc
  ends-with before between after old at new NoMemory Finished were leave made is = cc
  ends-with before between after old at new NoMemory Stopped were leave made is = cc
  ends-with before between after old at new NoMemory Stalled were leave made is = cc
  ends-with before between after old at new Worked end were leave made is = cc
  ends-with before between after old at new Idle end were leave made is = cc

-- there is no leave for a turn where a ring was heard before
pub unrung : (first old new : Course) → 0 < first.stop.seat.seen → first.stop.seat.seen ≤ old.stop.seat.seen
    → old.stop.seat.seen ≤ new.stop.seat.seen → HasLeave old new → ⊥
unrung first old new rung kept seen leave =
    let none : new.stop.seat.seen ≡ 0 = ap (λ (stop : BellEnd). stop.seat.seen) leave.1 in omega arith

-- where a ring was heard before and a turn is left, the thread that has no leave for a turn heard a ring
pub rung-ends : (first old new : Course) (end : End) → 0 < first.left → old.left ≡ first.left → HasNoLeave old end new
    → end ≡ Stopped
rung-ends first old new Stopped some same none = refl
rung-ends first old new Stalled some same none = absurd (omega (arith, none.0))
rung-ends first old new Finished some same none = absurd none
rung-ends first old new Memory some same none = absurd none
