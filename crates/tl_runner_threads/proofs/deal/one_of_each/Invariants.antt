use Rattle.std.proofs.Common.{◌≡◌, ◌+◌, vec_len}
use Rattle.std.specs.List.{All}
use Rattle.std.specs.Vec.Iter.{into_iter_items}
use Rattle.tl_runner_threads.proofs.deal.one_of_each.Given as goal

-- the receivers that are left have all their ways, those before have lost one
abbrev pub invariant-loop-ways : goal.invariant-loop-ways
invariant-loop-ways l =
    All (λ ways. vec_len ways ≡ l.fn.left) (into_iter_items l.ways-iterator) × All (λ ways. vec_len ways + 1 ≡ l.fn.left) l.rest.items
