use Rattle.std.proofs.Common.{◌≡◌, ◌≤◌, ◌==◌, take}
use Rattle.std.specs.List.{count_by}
use Rattle.tl_embed.specs.Events.{event_number}
use Rattle.tl_embed.proofs.events.count_kind.Given as goal

abbrev pub invariant-loop-event : goal.invariant-loop-event
invariant-loop-event l = record {
  is : l.count ≡ count_by (λ e. event_number e == l.kind) (take l.event-index l.events);
  few : l.count ≤ l.event-index;
}
