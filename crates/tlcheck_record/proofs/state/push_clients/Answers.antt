use Rattle.std.proofs.Common.{string_bytes}
use Rattle.tl_rules.specs.Plain.{block_state}
use Rattle.tlcheck_record.proofs.StateLines.{one_more}
use Rattle.tlcheck_record.proofs.state.push_clients.Goals as goal

pub loop-c-preserved : goal.loop-c-preserved
loop-c-preserved c =
    one_more c.args.shape (block_state c.args.block.now) c.loop-c.c (string_bytes c.args.text.now) (string_bytes c.loop-c.text)
    (string_bytes c.push_client.new.text) c.loop-c.invariant c.in_ok-push_client.ensures
