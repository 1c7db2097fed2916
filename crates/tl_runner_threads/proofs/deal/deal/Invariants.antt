use Rattle.std.proofs.Common.{◌≡◌, ◌+◌, vec_len}
use Rattle.std.specs.List.{All}
use Rattle.std.specs.Vec.Iter.{into_iter_items, into_iter_len}
use Rattle.tl_runner_threads.specs.Keys.{FitEach}
use Rattle.tl_runner_threads.proofs.deal.deal.Given as goal

-- the rows that are left are those of the mailboxes that are left
abbrev pub invariant-loop-keys : goal.invariant-loop-keys
invariant-loop-keys l =
    FitEach l.fn.senders l.rest (into_iter_items l.keys-iterator) × All (λ ways. vec_len ways ≡ l.fn.senders) l.sending.items
    × (vec_len l.receiving + into_iter_len l.keys-iterator ≡ vec_len l.fn.rows)
