use Rattle.std.proofs.Common.{sym, subst}
use Rattle.std.specs.List.{All}
use Rattle.tl_tickets.specs.Bell.{IsSeatOf}
use Rattle.tl_tickets.proofs.Fresh.{fresh_are_seats}
use Rattle.test_layers.proofs.tickets.open_seats.Goals as goal

pub returns : goal.returns
returns c =
    let bell = c.in_ok-made.made.0 in
    subst (All (IsSeatOf bell)) (sym c.in_ok-made.ensures.1) (fresh_are_seats bell c.args.seats)
