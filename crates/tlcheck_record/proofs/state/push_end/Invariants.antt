use Rattle.std.proofs.Common.{◌≡◌, ◌++◌, string_bytes}
use Rattle.tlcheck_record.specs.State.{ended}
use Rattle.tlcheck_record.proofs.state.push_end.Given as goal

abbrev pub invariant-loop-block : goal.invariant-loop-block
invariant-loop-block l = string_bytes l.text ≡ string_bytes l.fn.text ++ ended l.plain l.block
