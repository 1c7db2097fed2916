use Rattle.std.proofs.Common.{◌≡◌, ◌++◌, ◌+◌}
use Rattle.std.specs.VecDeque.{deque_len, deque_capacity}
use Rattle.tl_client_mail.proofs.waiting.Waiting.begin.Given as goal

-- all tickets in order stay, and so does the room
abbrev pub invariant-loop-ticket : goal.invariant-loop-ticket
invariant-loop-ticket l =
    (l.self-inside.kept.items ++ l.self-inside.rest.items ≡ l.initial.self-inside.kept.items ++ l.initial.self-inside.rest.items)
    × (deque_len l.self-inside.kept + deque_len l.self-inside.rest ≡ deque_len l.initial.self-inside.kept + deque_len l.initial.self-inside.rest)
    × (deque_capacity l.self-inside.kept ≡ deque_capacity l.initial.self-inside.kept)
    × (deque_capacity l.self-inside.rest ≡ deque_capacity l.initial.self-inside.rest)

abbrev pub decreases-loop-ticket : goal.decreases-loop-ticket
decreases-loop-ticket l = deque_len l.self-inside.kept
