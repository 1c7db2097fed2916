-- Which messages come to a worker (TileLink 1.8, section 3, "Channels"; links to several banks are this project's own).
use Rattle.std.specs.Prelude.{◌==◌, Bool, true, false, ◌&&◌, not, nat_lt}
use Rattle.tl_types.specs.declared.channel.Channel.{Channel}
use Rattle.tl_types.specs.declared.channel.Channel.TheVariants.{A, B, C, D, E}
use Rattle.tl_types.specs.declared.ticket.Ticket.{Ticket}
use Rattle.tl_client_mail.specs.declared.links.Links.{Links}
use Rattle.tl_client_mail.specs.declared.links.Links.TheVariants.{OfClient, OfBank}

-- messages on the channel go from home to a client
abbrev pub is_to_client : Channel → Bool
is_to_client A = false
is_to_client B = true
is_to_client C = false
is_to_client D = true
is_to_client E = false

-- a message comes to the worker on one of its links: on B or D to a client, on A, C or E to a bank
abbrev pub brings : Links → Ticket → Bool
brings (OfClient client banks) ticket = (ticket.client == client) && (nat_lt ticket.bank banks && is_to_client ticket.channel)
brings (OfBank bank clients) ticket = (ticket.bank == bank) && (nat_lt ticket.client clients && not (is_to_client ticket.channel))
