use Rattle.std.proofs.Common.{List, sym, ap, subst, length, arith}
use Rattle.std.specs.List.{All}
use Rattle.tl_tickets.specs.Bell.{SeatView, IsSeatOf}
use Rattle.tl_tickets.proofs.Fresh.{fresh_are_seats, seats_are}
use Rattle.tl_runner_threads.proofs.mailbox.open_bell.Goals as goal

pub returns-clause-seats : goal.returns-clause-seats
returns-clause-seats c =
    let bell = c.in_ok-made.made.0 in
    subst (All (IsSeatOf bell)) (sym c.in_ok-made.ensures.1) (fresh_are_seats bell c.args.seats)

pub returns-clause-count : goal.returns-clause-count
returns-clause-count c =
    let all = ap (λ (seats : List SeatView). length seats) c.in_ok-made.ensures.1 in
    omega (arith, c.in_ok-made.made.1.ok.0, all, seats_are c.in_ok-made.made.0 c.args.seats)
