use Rattle.std.proofs.Common.{◌≡◌, vec_len}
use Rattle.tl_runner_threads.proofs.banks.open_banks.Given as goal

-- each client has its list
abbrev pub invariant-loop-number : goal.invariant-loop-number
invariant-loop-number l = vec_len l.shares ≡ l.fn.geometry.clients

abbrev pub invariant-loop-share : goal.invariant-loop-share
invariant-loop-share l = vec_len l.shares ≡ l.fn.geometry.clients
