use Rattle.std.proofs.Common.{◌≡◌, ◌+◌, vec_len}
use Rattle.std.specs.List.{All}
use Rattle.std.specs.Vec.Iter.{into_iter_items, into_iter_len}
use Rattle.tl_tickets.specs.Bell.{IsSeatOf}
use Rattle.tl_tickets.specs.Inbox.{IsSenderOf}
use Rattle.tl_runner_threads.proofs.deal.ways_to.Given as goal

-- the passes and seats that are left are those of the inbox and the bell, one for each way that is missing
abbrev pub invariant-loop-pass : goal.invariant-loop-pass
invariant-loop-pass l =
    All (IsSenderOf l.inbox) (into_iter_items l.pass-iterator) × All (IsSeatOf l.bell) l.seats.items
    × (vec_len l.seats ≡ into_iter_len l.pass-iterator) × (vec_len l.ways + into_iter_len l.pass-iterator ≡ vec_len l.fn.passes)
