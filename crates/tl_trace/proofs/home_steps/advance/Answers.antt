use Rattle.tl_trace.proofs.Done.{advance-done}
use Rattle.tl_trace.proofs.home_steps.advance.Goals as goal

-- what the action sent is there
pub show-requires : goal.show-requires
show-requires c =
    advance-done c.args.bank.now c.advance.new.self c.args.block c.in-Ok.action c.in-Ok.ensures.advances c.log-log.ensures.run
    c.log-log.ensures.own
