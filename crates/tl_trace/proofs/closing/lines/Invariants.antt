use Rattle.std.proofs.Common.{◌≡◌, map, take}
use Rattle.tl_trace.specs.Closing.{line_state}
use Rattle.tl_trace.proofs.ClosingLemmas.{lines_of}
use Rattle.tl_trace.proofs.closing.lines.Given as goal

abbrev pub invariant-loop-block : goal.invariant-loop-block
invariant-loop-block l = map line_state l.lines.items ≡ lines_of l.bank (take l.block-index l.block-items)
