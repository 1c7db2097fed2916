use Rattle.std.proofs.Common.{take}
use Rattle.std.specs.Fmt.{HasWritten, IsPlainFormatter}
use Rattle.std.specs.List.{flat_map}
use Rattle.tlwire_answer.specs.Ending.{stop_line}
use Rattle.tlwire_answer.proofs.ending.StopLinesDisplay.fmt.Given as goal

abbrev pub invariant-loop-stop : goal.invariant-loop-stop
invariant-loop-stop g l =
    IsPlainFormatter l.initial.f
    → HasWritten g.W.Write.write_str_gives l.initial.f (flat_map (stop_line l.numbers) (take l.stop-index l.stops)) l.f
