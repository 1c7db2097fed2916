use Rattle.std.proofs.Common.{◌≡◌, ◌+◌, ◌≤◌, vec_len}
use Rattle.std.specs.Vec.Iter.{into_iter_len}
use Rattle.tl_runner_threads.proofs.runner.home_workers.Given as goal

-- there are at most eight homes, and each so far has its worker
abbrev pub invariant-loop-post : goal.invariant-loop-post
invariant-loop-post l =
    (l.number + into_iter_len l.post-iterator ≤ 8) × (vec_len l.workers ≡ l.number)
    × (l.number + into_iter_len l.post-iterator ≡ into_iter_len l.initial.post-iterator)
