use Rattle.std.proofs.Common.{◌≡◌, ◌++◌, drop}
use Rattle.tlchart_trace.specs.Turn.{turns_of}
use Rattle.tlchart_trace.proofs.turn.turns.Given as goal

abbrev pub invariant-loop-step : goal.invariant-loop-step
invariant-loop-step l = l.turns.items ++ turns_of l.geometry (drop l.step-index l.steps) l.rest ≡ turns_of l.geometry l.steps l.answers
