-- What waits on a channel of a link as the log leaves it, and the next ticket there (this project's own).
use Rattle.std.specs.Prelude.{ℕ}
use Rattle.tl_types.specs.Lane.{Lane, sent}
use Rattle.tl_types.specs.declared.channel.Channel.{Channel}
use Rattle.tl_types.specs.declared.ticket.Ticket.{Ticket}
use Rattle.tl_protocol_lanes.specs.Lanes.{lane_of}
use Rattle.tl_bank_spec.specs.View.{View, shape_of}

-- of a channel: the messages that wait, oldest first, and how many were taken before them
abbrev pub lane_at : View → ℕ → Channel → Lane
lane_at v client channel = lane_of (shape_of v.geometry) v.image v.log client channel

-- the ticket of the next message that is sent there
abbrev pub next_ticket : View → ℕ → Channel → Ticket
next_ticket v client channel =
    record { bank = v.number; client = client; channel = channel; serial = sent (lane_at v client channel) }
