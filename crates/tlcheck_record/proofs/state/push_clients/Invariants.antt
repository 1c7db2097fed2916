use Rattle.std.proofs.Common.{◌≡◌, ◌++◌, string_bytes}
use Rattle.tl_rules.specs.Plain.{block_state}
use Rattle.tlcheck_record.specs.State.{client_lines}
use Rattle.tlcheck_record.proofs.state.push_clients.Given as goal

abbrev pub invariant-loop-c : goal.invariant-loop-c
invariant-loop-c l = string_bytes l.text ≡ string_bytes l.fn.text ++ client_lines l.shape (block_state l.block) l.c
