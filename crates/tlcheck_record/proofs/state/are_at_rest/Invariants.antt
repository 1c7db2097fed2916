use Rattle.std.proofs.Common.{◌≡◌}
use Rattle.tl_rules.specs.Plain.{plain_client}
use Rattle.tlcheck_record.specs.State.{all_clients, is_at_rest}
use Rattle.tlcheck_record.proofs.state.are_at_rest.Given as goal

abbrev pub invariant-loop-c : goal.invariant-loop-c
invariant-loop-c l = l.rest ≡ all_clients is_at_rest l.c (plain_client l.block)
