use Rattle.tl_trace.specs.NetworkState.{bank_at}
use Rattle.tlchart_page.proofs.Reached.{spot-known}
use Rattle.tlchart_page.proofs.reach.spot_in.Goals as goal

-- the bank is there
pub returns-in-Some : goal.returns-in-Some
returns-in-Some c =
    spot-known c.in-Some.bank.now (bank_at c.args.network.now c.args.number) c.last_spot.result c.in-Some.ensures c.last_spot.ensures
