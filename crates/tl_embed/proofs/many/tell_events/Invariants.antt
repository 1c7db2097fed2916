use Rattle.std.proofs.Common.{◌≡◌, ◌++◌, map, take, drop}
use Rattle.tl_bank_spec.specs.View.{shape_of}
use Rattle.tl_embed.specs.Events.{event_told}
use Rattle.tl_embed.proofs.many.tell_events.Given as goal

abbrev pub invariant-loop-place : goal.invariant-loop-place
invariant-loop-place l =
    l.events ≡ map (event_told (shape_of l.geometry)) (take l.place l.log) ++ drop l.place l.initial.events
