-- Who is drawn, and where messages wait (this project's own).
use Rattle.std.specs.Prelude.{◌==◌, ◌&&◌, Bool, true, false, if◌then◌else◌}
use Rattle.tl_types.specs.Channel.{same_channel}
use Rattle.tl_types.specs.declared.channel.Channel.{Channel}
use Rattle.tl_types.specs.declared.channel.Channel.TheVariants.{A, B, C, D, E}
use Rattle.tl_types.specs.declared.ticket.Ticket.{Ticket}
use Rattle.tlchart_model.specs.declared.lifeline.Lifeline.{Lifeline}
use Rattle.tlchart_model.specs.declared.lifeline.Lifeline.TheVariants.{Client, Home}
use Rattle.tlchart_model.specs.declared.lifeline.Place.{Place}
use Rattle.tlchart_model.specs.declared.lifeline.Place.TheVariants.{Link, ToMemory, FromMemory}

-- ## Channels

-- a client sends on the channel; on the others home does
abbrev pub is_from_client : Channel → Bool
is_from_client A = true
is_from_client B = false
is_from_client C = true
is_from_client D = false
is_from_client E = true

-- who sends on a ticket's channel
abbrev pub sender : Ticket → Lifeline
sender t = if is_from_client t.channel then Client t.client else Home t.bank

-- who takes from it: the other end of the link
abbrev pub receiver : Ticket → Lifeline
receiver t = if is_from_client t.channel then Home t.bank else Client t.client

-- ## Places

-- two tickets are one
abbrev pub same_ticket : Ticket → Ticket → Bool
same_ticket a b = (a.bank == b.bank) && (a.client == b.client) && same_channel a.channel b.channel && (a.serial == b.serial)

-- two places are one
abbrev pub same_place : Place → Place → Bool
same_place (Link a) (Link b) = same_ticket a b
same_place (ToMemory a) (ToMemory b) = a == b
same_place (FromMemory a) (FromMemory b) = a == b
same_place _ _ = false
