use Rattle.std.proofs.Common.{[]}
use Rattle.tl_bank_rest.proofs.Flushing.{away-moved, away-received, away-shares}
use Rattle.tl_bank_rest.proofs.Received.{join-received}
use Rattle.tl_bank_rest.proofs.away.send_away.Goals as goal

pub receive_all-requires : goal.receive_all-requires
receive_all-requires c = away-shares _ _ _ _ c.evict.ensures c.requires.shares

pub returns-clause-received : goal.returns-clause-received
returns-clause-received c = join-received _ _ _ ([], away-received _ _ _ c.evict.ensures) c.receive_all.ensures.received

pub returns-clause-moved : goal.returns-clause-moved
returns-clause-moved c =
    away-moved _ _ _ _ c.receive_all.result c.evict.ensures c.receive_all.ensures.quiet c.receive_all.ensures.moved
