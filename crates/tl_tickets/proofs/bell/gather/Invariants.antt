use Rattle.std.proofs.Common.{◌≡◌, ◌≤◌, ◌*◌, ◌^◌, List, [], ◌++◌, length}
use Rattle.tl_tickets.specs.Bell.{SeatView, rings_of}
use Rattle.tl_tickets.specs.Ringing.{gathered_tallies}
use Rattle.tl_tickets.proofs.bell.gather.Given as goal

abbrev pub invariant-loop-next : goal.invariant-loop-next
invariant-loop-next l = (done : List SeatView) × (l.fn.seats.items ≡ l.seats.items ++ done) × (l.all.table_id ≡ l.word.shared.table_id) × (l.all.me ≡ (gathered_tallies done, [])) × (l.total ≡ rings_of done)
    × (l.total ≤ 2 ^ 40 * length done)

abbrev pub decreases-loop-next : goal.decreases-loop-next
decreases-loop-next l = goal.left-loop-next l
