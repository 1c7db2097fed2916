use Rattle.std.proofs.Common.{take}
use Rattle.std.specs.Fmt.{HasWritten, IsPlainFormatter}
use Rattle.std.specs.List.{flat_map}
use Rattle.tlcheck_record.specs.State.{on_a}
use Rattle.tlcheck_record.proofs.client.OnADisplay.fmt.Given as goal

abbrev pub invariant-loop-grow : goal.invariant-loop-grow
invariant-loop-grow g l =
    IsPlainFormatter l.initial.f → HasWritten g.W.Write.write_str_gives l.initial.f (flat_map on_a (take l.grow-index l.grow-items)) l.f
