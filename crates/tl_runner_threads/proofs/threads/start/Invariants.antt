use Rattle.std.proofs.Common.{◌≡◌, ◌+◌, ◌≤◌, vec_len, vec_capacity}
use Rattle.std.specs.Vec.Iter.{into_iter_len}
use Rattle.tl_runner_threads.proofs.threads.start.Given as goal

-- each worker so far has its thread, and there is room for a handle of each that is left
abbrev pub invariant-loop-worker : goal.invariant-loop-worker
invariant-loop-worker g l =
    (vec_len l.threads + into_iter_len l.worker-iterator ≡ vec_len l.fn.threads + into_iter_len l.initial.worker-iterator)
    × (vec_len l.fn.threads + into_iter_len l.initial.worker-iterator ≤ vec_capacity l.threads)
