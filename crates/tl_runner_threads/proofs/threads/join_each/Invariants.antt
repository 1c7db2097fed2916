use Rattle.std.proofs.Common.{◌≡◌, ◌+◌, ◌≤◌, vec_len, vec_capacity}
use Rattle.std.specs.Vec.Iter.{into_iter_len}
use Rattle.tl_runner_threads.proofs.threads.join_each.Given as goal

-- the workers so far with those whose threads are left are as many as at first, and there is room for them
abbrev pub invariant-loop-thread : goal.invariant-loop-thread
invariant-loop-thread g l =
    (vec_len l.ended + into_iter_len l.thread-iterator ≡ vec_len l.fn.ended + into_iter_len l.initial.thread-iterator)
    × (vec_len l.ended + into_iter_len l.thread-iterator ≤ vec_capacity l.ended)
