use Rattle.std.proofs.Common.{◌+◌, Option, sym, ap, ◌∙◌, subst, arith}
use Rattle.tl_protocol.specs.declared.event.Event.{Event}
use Rattle.tl_protocol.specs.OneMemory.{access_of}
use Rattle.tl_rules.specs.Left.{stamp_in}
use Rattle.tl_rules.specs.declared.merge.Next.{Next}
use Rattle.tl_rules.specs.Certified.{events_of}
use Rattle.tl_rules.proofs.Cursors.{IsBest, best_more_at, best_same_at, best_is_next, best_is_none, length_logs}
use Rattle.tl_rules.proofs.merge.next_log.Goals as goal
use Rattle.tl_rules.proofs.merge.next_log.Goals.{then-cursor-log, else-cursor-log}

pub loop-place-preserved : goal.loop-place-preserved
loop-place-preserved c =
    let logs = c.args.logs.now in
    let cursors = c.args.cursors.now in
    let i = c.loop-place.place in
    let log = c.index-logs-place.result in
    elim c.if-cursor-log.branch [
      | then-cursor-log w ↦
          subst (λ (n : Option Next). IsBest (events_of logs) cursors (i + 1) n) (sym w.next-is)
          (subst (λ (n : Option Next). IsBest (events_of logs) cursors (i + 1) n) (sym w.earlier-next.ensures)
          (best_more_at logs cursors i c.loop-place.next log w.index-log-cursor.result w.stamp_in-stamp.result c.loop-place.invariant c.requires.rising (omega arith) c.index-logs-place.is w.if-cursor-log.true w.index-log-cursor.is (w.stamp_in-stamp.ensures ∙ ap (λ (e : Event). stamp_in (access_of e)) (sym w.index-log-cursor.is))))
      | else-cursor-log w ↦
          subst (λ (n : Option Next). IsBest (events_of logs) cursors (i + 1) n) (sym w.next-is)
          (best_same_at logs cursors i c.loop-place.next log c.loop-place.invariant (omega arith) c.index-logs-place.is w.if-cursor-log.false)
    ]

pub returns-in-Some-clause-some : goal.returns-in-Some-clause-some
returns-in-Some-clause-some c =
    let logs = c.args.logs.now in
    best_is_next (events_of logs) c.args.cursors.now c.loop-place.place c.in-Some.next
    (subst (IsBest (events_of logs) c.args.cursors.now c.loop-place.place) c.in-Some.is c.loop-place.invariant)
    (omega (arith, length_logs logs)) (let few = c.requires.few in omega (arith, length_logs logs, c.told-cursors))

pub returns-in-None-clause-none : goal.returns-in-None-clause-none
returns-in-None-clause-none c =
    let logs = c.args.logs.now in
    best_is_none (events_of logs) c.args.cursors.now c.loop-place.place c.loop-place.next c.loop-place.invariant c.in-None.is
    (omega (arith, length_logs logs)) (omega (arith, length_logs logs))
