use Rattle.std.proofs.Common.{◌≡◌, vec_len}
use Rattle.tl_runner_threads.proofs.banks.no_shares.Given as goal

abbrev pub invariant-loop : goal.invariant-loop
invariant-loop l = vec_len l.lists ≡ l.counter
