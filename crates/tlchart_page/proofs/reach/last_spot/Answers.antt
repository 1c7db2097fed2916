use Rattle.tlchart_page.proofs.Reached.{spot-last}
use Rattle.tlchart_page.proofs.reach.last_spot.Goals as goal

-- the spot of the last event that code can read
pub returns-in-Some : goal.returns-in-Some
returns-in-Some c =
    spot-last c.args.bank.now c.geometry.result c.log.result.now c.in-Some.event.now c.spot_of.result c.geometry.ensures c.log.ensures.is
    c.in-Some.ensures.value c.spot_of.ensures
