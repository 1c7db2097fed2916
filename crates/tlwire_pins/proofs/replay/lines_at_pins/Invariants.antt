use Rattle.std.proofs.Common.{take}
use Rattle.tlwire_pins.specs.Walk.{IsReplayed}
use Rattle.tlwire_pins.proofs.replay.lines_at_pins.Given as goal

-- the events so far, and what is seen of them
abbrev pub invariant-loop-event : goal.invariant-loop-event
invariant-loop-event l = IsReplayed l.fn.shape l.image (take l.event-index l.run) l.replay.plain l.replay.lines.items
