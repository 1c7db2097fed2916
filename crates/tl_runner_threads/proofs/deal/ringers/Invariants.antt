use Rattle.std.proofs.Common.{◌≡◌, ◌+◌, vec_len}
use Rattle.std.specs.List.{All}
use Rattle.std.specs.Vec.Iter.{into_iter_items, into_iter_len}
use Rattle.tl_tickets.specs.Bell.{IsSeatOf}
use Rattle.tl_runner_threads.proofs.deal.ringers.Given as goal

-- the seats that are left are the bell's
abbrev pub invariant-loop-seat : goal.invariant-loop-seat
invariant-loop-seat l = All (IsSeatOf l.bell) (into_iter_items l.seat-iterator) × (vec_len l.ringers + into_iter_len l.seat-iterator ≡ vec_len l.fn.seats)
