use Rattle.std.proofs.Common.{◌≡◌, ◌++◌, ◌+◌, ◌≤◌, filter, take}
use Rattle.std.specs.VecDeque.{deque_len, deque_capacity}
use Rattle.tl_types.specs.Channel.{channel_index}
use Rattle.tl_client_mail.specs.Rounds.{is_on}
use Rattle.tl_client_mail.proofs.waiting.Waiting.push_all.Given as goal

-- of the tickets so far those of the channel have joined
abbrev pub invariant-loop-ticket : goal.invariant-loop-ticket
invariant-loop-ticket l =
    (l.self-inside.rest.items ≡ l.initial.self-inside.rest.items ++ filter (λ t. is_on (channel_index l.channel) t) (take l.ticket-index l.tickets))
    × (deque_len l.self-inside.rest ≤ deque_len l.initial.self-inside.rest + l.ticket-index)
    × (deque_capacity l.self-inside.rest ≡ deque_capacity l.initial.self-inside.rest)
    × (l.self-inside.kept ≡ l.initial.self-inside.kept)
