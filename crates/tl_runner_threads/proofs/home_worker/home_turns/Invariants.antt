use Rattle.std.proofs.Common.{◌≡◌, ◌<◌, ◌≤◌, ℕ}
use Rattle.tl_runner_threads.specs.Course.{Turns}
use Rattle.tl_runner_threads.specs.Courses.{IsHomeTurn, home_at}
use Rattle.tl_runner_threads.proofs.home_worker.home_turns.Given as goal

-- the turns so far, each with leave and none of them the last; none where the stop bell was rung before
abbrev pub invariant-turns : goal.invariant-turns
invariant-turns g l = record {
  turns : (n : ℕ) × Turns (IsHomeTurn l.shared.clients) n (home_at l.fn.home l.fn.mail) l.fn.course (home_at l.home l.mail) l.course;
  seen : l.fn.course.stop.seat.seen ≤ l.course.stop.seat.seen;
  none : 0 < l.fn.course.stop.seat.seen → l.course.left ≡ l.fn.course.left;
}

abbrev pub decreases-turns : goal.decreases-turns
decreases-turns g l = l.course.left
