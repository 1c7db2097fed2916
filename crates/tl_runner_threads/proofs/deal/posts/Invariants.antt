use Rattle.std.proofs.Common.{◌≡◌, ◌+◌, vec_len}
use Rattle.std.specs.List.{All}
use Rattle.std.specs.Vec.Iter.{into_iter_len}
use Rattle.tl_runner_threads.proofs.deal.posts.Given as goal

-- for each worker that is missing, a way to each receiver and a seat at each bell is left
abbrev pub invariant-loop-own : goal.invariant-loop-own
invariant-loop-own l =
    All (λ ways. vec_len ways ≡ into_iter_len l.own-iterator) l.sending.items × (vec_len l.done ≡ into_iter_len l.own-iterator)
    × (vec_len l.stop ≡ into_iter_len l.own-iterator)
    × (vec_len l.posts + into_iter_len l.own-iterator ≡ into_iter_len l.initial.own-iterator)
