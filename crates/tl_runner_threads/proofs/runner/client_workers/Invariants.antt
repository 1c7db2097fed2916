use Rattle.std.proofs.Common.{◌≡◌, ◌+◌, length, vec_len}
use Rattle.std.specs.Vec.Iter.{into_iter_len}
use Rattle.tl_runner_threads.proofs.runner.client_workers.Given as goal

-- each list of shares that is left has its mail and its commands, each before has its worker
abbrev pub invariant-loop-own : goal.invariant-loop-own
invariant-loop-own l =
    (vec_len l.posts ≡ into_iter_len l.own-iterator) × (l.number + into_iter_len l.own-iterator ≡ length l.fn.commands) × (vec_len l.workers ≡ l.number)
