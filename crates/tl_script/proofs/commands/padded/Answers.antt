use Rattle.std.proofs.Common.{arith}
use Rattle.tl_script.proofs.EachLemmas.{pad_more}
use Rattle.tl_script.proofs.commands.padded.Goals as goal

pub loop-alloc-preserved : goal.loop-alloc-preserved
loop-alloc-preserved c =
    rw c.in_ok-push.ensures.items (pad_more c.loop-alloc.given.items c.new.result c.args.clients _ (omega arith) c.new.ensures.items c.loop-alloc.invariant)
