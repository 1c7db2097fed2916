use Rattle.std.proofs.Common.{◌≡◌, ◌+◌, List, drop, Option, slice_set, slice_index_or, refl, sym, subst, arith}
use Rattle.tl_rules.specs.declared.merge.Mark.{Mark}
use Rattle.std.proofs.lemmas.Bool.{false≢true, iff_false}
use Rattle.tl_protocol.specs.declared.event.Event.{Event}
use Rattle.tl_rules.specs.Certified.{accesses_of, events_of}
use Rattle.tl_rules.proofs.Cursors.{length_logs, read_log}
use Rattle.tl_rules.proofs.Loop.{fewer_moved, state_moved, certified_from, certified_to, certified_lawful, state_last, State, state_first, next_more, next_place, here, client_here, not_here, state_here, same_here}
use Rattle.tl_rules.proofs.merge.certify_events.Goals as goal
use Rattle.tl_rules.proofs.merge.certify_events.Goals.{in-Some-access+else-not-follows, in_default-access}

pub returns-then-not-are_lawful : goal.returns-then-not-are_lawful
returns-then-not-are_lawful c = (
  λ f. absurd (false≢true f),
  λ h. absurd (iff_false c.are_lawful.ensures c.if-not-are_lawful.true (certified_lawful (events_of c.args.logs.now) h)),
)

pub loop-place-init : goal.loop-place-init
loop-place-init c =
    let few = c.if-logs-gt-BANKS.false in state_first (events_of c.args.logs.now) (omega (arith, few, length_logs c.args.logs.now)) (c.are_lawful.ensures.0 c.if-not-are_lawful.false).0

pub event_at-event-requires : goal.event_at-event-requires
event_at-event-requires c =
    next_more c.args.logs.now c.loop-place.cursors c.in-Some.place c.index-logs-place.result
    (next_place c.args.logs.now c.loop-place.cursors c.in-Some.place c.in-Some.ensures.some) c.index-logs-place.is c.in-Some.ensures.some

pub bounds-last-client : goal.bounds-last-client
bounds-last-client c =
    let lt = next_place c.args.logs.now c.loop-place.cursors c.in-Some.place c.in-Some.ensures.some in
    let known = client_here c.args.logs.now c.loop-place.cursors c.loop-place.last c.in-Some.place c.index-logs-place.result c.event_at-event.result.now (omega (arith, c.if-logs-gt-BANKS.false)) lt c.index-logs-place.is c.in-Some.ensures.some c.event_at-event.ensures.is c.loop-place.invariant c.in-Some-access.access.now (sym c.in-Some-access.ensures) in
    omega (arith, known, c.number-client.ensures)

pub bounds-last-client-in-Some-access : goal.bounds-last-client-in-Some-access
bounds-last-client-in-Some-access c =
    let lt = next_place c.args.logs.now c.loop-place.cursors c.in-Some.place c.in-Some.ensures.some in
    let known = client_here c.args.logs.now c.loop-place.cursors c.loop-place.last c.in-Some.place c.index-logs-place.result c.event_at-event.result.now (omega (arith, c.if-logs-gt-BANKS.false)) lt c.index-logs-place.is c.in-Some.ensures.some c.event_at-event.ensures.is c.loop-place.invariant c.in-Some-access.access.now (sym c.in-Some-access.ensures) in
    omega (arith, known, c.number-client.ensures)

pub returns-then-not-follows : goal.returns-then-not-follows
returns-then-not-follows c =
    let lt = next_place c.args.logs.now c.loop-place.cursors c.in-Some.place c.in-Some.ensures.some in
    let never = not_here c.args.logs.now c.loop-place.cursors c.loop-place.last c.in-Some.place c.index-logs-place.result c.event_at-event.result.now (omega (arith, c.if-logs-gt-BANKS.false)) lt c.index-logs-place.is c.in-Some.ensures.some c.event_at-event.ensures.is c.loop-place.invariant c.in-Some-access.access.now (sym c.in-Some-access.ensures) c.number-client.result c.number-client.ensures (iff_false c.follows.ensures c.if-not-follows.true) in
    (λ f. absurd (false≢true f), λ h. absurd (never (certified_to (events_of c.args.logs.now) h)))

pub next_access-requires : goal.next_access-requires
next_access-requires c =
    let lt = next_place c.args.logs.now c.loop-place.cursors c.in-Some.place c.in-Some.ensures.some in
    let more = next_more c.args.logs.now c.loop-place.cursors c.in-Some.place c.index-logs-place.result lt c.index-logs-place.is c.in-Some.ensures.some in
    omega (arith, more)

pub loop-place-preserved : goal.loop-place-preserved
loop-place-preserved c =
    let lt = next_place c.args.logs.now c.loop-place.cursors c.in-Some.place c.in-Some.ensures.some in
    let read = read_log c.args.logs.now c.in-Some.place c.index-logs-place.result lt c.index-logs-place.is in
    state_moved (events_of c.args.logs.now) c.loop-place.cursors _ c.in-Some.place (slice_index_or c.loop-place.cursors c.in-Some.place 0 + 1) c.next_access.result
    (subst (λ (es : List Event). accesses_of (drop c.next_access.result es) ≡ accesses_of (drop (slice_index_or c.loop-place.cursors c.in-Some.place 0 + 1) es)) (sym read) c.next_access.ensures.accesses)
    (elim c.match-access.branch [
      | in-Some-access+else-not-follows w ↦
          subst (λ (last : List (Option Mark)). State (events_of c.args.logs.now) (slice_set c.loop-place.cursors c.in-Some.place (slice_index_or c.loop-place.cursors c.in-Some.place 0 + 1)) last) (sym w.last-is)
          (state_here c.args.logs.now c.loop-place.cursors c.loop-place.last c.in-Some.place c.index-logs-place.result c.event_at-event.result.now (omega (arith, c.if-logs-gt-BANKS.false)) lt c.index-logs-place.is c.in-Some.ensures.some c.event_at-event.ensures.is c.loop-place.invariant w.in-Some-access.access.now (sym w.in-Some-access.ensures) w.number-client.result w.number-client.ensures (w.follows.ensures.0 w.if-not-follows.false))
      | in_default-access w ↦
          subst (λ (last : List (Option Mark)). State (events_of c.args.logs.now) (slice_set c.loop-place.cursors c.in-Some.place (slice_index_or c.loop-place.cursors c.in-Some.place 0 + 1)) last) (sym w.last-is)
          (same_here c.args.logs.now c.loop-place.cursors c.loop-place.last c.in-Some.place c.index-logs-place.result c.event_at-event.result.now (omega (arith, c.if-logs-gt-BANKS.false)) lt c.index-logs-place.is c.in-Some.ensures.some c.event_at-event.ensures.is c.loop-place.invariant (sym w.in_default-access.ensures))
    ])

pub loop-place-smaller : goal.loop-place-smaller
loop-place-smaller c =
    let lt = next_place c.args.logs.now c.loop-place.cursors c.in-Some.place c.in-Some.ensures.some in
    let fewer = (here c.args.logs.now c.loop-place.cursors c.loop-place.last c.in-Some.place c.index-logs-place.result c.event_at-event.result.now (omega (arith, c.if-logs-gt-BANKS.false)) lt c.index-logs-place.is c.in-Some.ensures.some c.event_at-event.ensures.is c.loop-place.invariant).fewer in
    let moved = fewer_moved (events_of c.args.logs.now) c.loop-place.cursors c.in-Some.place (slice_index_or c.loop-place.cursors c.in-Some.place 0 + 1) c.next_access.result c.next_access.ensures.later.0 in
    omega (arith, fewer, moved)

pub returns : goal.returns
returns c =
    let logs = c.args.logs.now in
    let few = c.if-logs-gt-BANKS.false in (
      λ _. certified_from (events_of logs) (omega (arith, few, length_logs logs)) (c.are_lawful.ensures.0 c.if-not-are_lawful.false)
          (state_last (events_of logs) c.loop-place.cursors c.loop-place.last c.loop-place.invariant c.in_default.ensures.none),
      λ _. refl,
    )
