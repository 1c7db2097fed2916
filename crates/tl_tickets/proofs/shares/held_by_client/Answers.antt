use Rattle.tl_tickets.proofs.Sums.{held_is}
use Rattle.tl_tickets.proofs.shares.held_by_client.Goals as goal

pub returns : goal.returns
returns c = held_is c.every_run.ensures.blocks c.args.bank.now c.log-log.ensures.own
