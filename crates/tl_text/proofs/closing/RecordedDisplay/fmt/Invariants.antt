use Rattle.std.proofs.Common.{take}
use Rattle.std.specs.Fmt.{HasWritten, IsPlainFormatter}
use Rattle.tl_text.specs.Closing.{recorded_letters}
use Rattle.tl_text.proofs.closing.RecordedDisplay.fmt.Given as goal

abbrev pub invariant-loop-standing : goal.invariant-loop-standing
invariant-loop-standing g l =
    IsPlainFormatter l.initial.f → HasWritten g.W.Write.write_str_gives l.initial.f (recorded_letters (take l.standing-index l.standing-items)) l.f
