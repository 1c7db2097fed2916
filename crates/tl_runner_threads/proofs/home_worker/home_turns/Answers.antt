use Rattle.std.proofs.Common.{ℕ, subst, arith}
use Rattle.tl_runner_threads.proofs.CourseLaws.{ends-with, ends-without, rung-ends, turns-more, unrung}
use Rattle.tl_runner_threads.proofs.EndLaws.{turn-finished}
use Rattle.tl_runner_threads.proofs.TurnLaws.{home-turn}
use Rattle.tl_runner_threads.specs.Course.{HasNoLeave}
use Rattle.tl_runner_threads.specs.Courses.{HomeAt, IsHomeTurn, home_at}
use Rattle.tl_runner_threads.specs.declared.workers.End.{End}
use Rattle.tl_runner_threads.proofs.home_worker.home_turns.Goals as goal

pub turns-preserved : goal.turns-preserved
turns-preserved g c =
    let clients : ℕ = c.args.shared.now.clients in
    let before : HomeAt = home_at c.args.home.now c.args.mail.now in
    let between : HomeAt = home_at c.turns.home c.turns.mail in
    let after : HomeAt = home_at c.turn.new.self c.turn.new.mail in
    let made : IsHomeTurn clients between c.turn.result after =
    home-turn clients between after (g.P.HomePort.asked c.turn.new.port) c.turn.result c.turn.ensures.works
    (λ idle. (let is = c.turn.ensures.idle idle in (is.0, is.2))) (λ last. (let is = c.turn.ensures.finished last in (is.0, is.2, is.3))) in
    record {
      turns = turns-more (IsHomeTurn clients) before between after c.args.course.now c.turns.course c.end_before_turn.new.self c.turn.result
          c.turns.invariant.turns c.in_default.ensures.leave made c.in_default-end_after.ensures;
      seen = omega arith;
      none = λ rung. absurd
          (unrung c.args.course.now c.turns.course c.end_before_turn.new.self rung c.turns.invariant.seen c.end_before_turn.ensures.seen c.in_default.ensures.leave);
    }

pub turns-smaller : goal.turns-smaller
turns-smaller g c = omega (arith, c.in_default.ensures.leave.0)

pub returns-in-Some-clause-course : goal.returns-in-Some-clause-course
returns-in-Some-clause-course g c =
    ends-without (IsHomeTurn c.args.shared.now.clients) (home_at c.args.home.now c.args.mail.now) (home_at c.turns.home c.turns.mail)
    c.args.course.now c.turns.course c.end_before_turn.new.self c.in-Some.end c.turns.invariant.turns c.in-Some.ensures.leave

pub returns-in-Some-clause-stopped : goal.returns-in-Some-clause-stopped
returns-in-Some-clause-stopped g c rung left =
    rung-ends c.args.course.now c.turns.course c.end_before_turn.new.self c.in-Some.end left (c.turns.invariant.none rung) c.in-Some.ensures.leave

pub returns-in-Some-clause-finished : goal.returns-in-Some-clause-finished
returns-in-Some-clause-finished g c last =
    absurd (subst (λ (end : End). HasNoLeave c.turns.course end c.end_before_turn.new.self) last c.in-Some.ensures.leave)

pub returns-in-Some-end_after-clause-course : goal.returns-in-Some-end_after-clause-course
returns-in-Some-end_after-clause-course g c =
    let clients : ℕ = c.args.shared.now.clients in
    let before : HomeAt = home_at c.args.home.now c.args.mail.now in
    let between : HomeAt = home_at c.turns.home c.turns.mail in
    let after : HomeAt = home_at c.turn.new.self c.turn.new.mail in
    let made : IsHomeTurn clients between c.turn.result after =
    home-turn clients between after (g.P.HomePort.asked c.turn.new.port) c.turn.result c.turn.ensures.works
    (λ idle. (let is = c.turn.ensures.idle idle in (is.0, is.2))) (λ last. (let is = c.turn.ensures.finished last in (is.0, is.2, is.3))) in
    ends-with (IsHomeTurn clients) before between after c.args.course.now c.turns.course c.end_before_turn.new.self c.turn.result
    c.in-Some-end_after.end c.turns.invariant.turns c.in_default.ensures.leave made c.in-Some-end_after.ensures

pub returns-in-Some-end_after-clause-stopped : goal.returns-in-Some-end_after-clause-stopped
returns-in-Some-end_after-clause-stopped g c rung left =
    absurd
    (unrung c.args.course.now c.turns.course c.end_before_turn.new.self rung c.turns.invariant.seen c.end_before_turn.ensures.seen c.in_default.ensures.leave)

pub returns-in-Some-end_after-clause-finished : goal.returns-in-Some-end_after-clause-finished
returns-in-Some-end_after-clause-finished g c last =
    (c.turn.ensures.finished (turn-finished c.turn.result c.in-Some-end_after.end c.in-Some-end_after.ensures last)).3
