-- How a ticket prints.
use Rattle.std.specs.Prelude.{ℕ, List, ◌++◌, codes, decimal}
use Rattle.tl_types.specs.Channel.{letter_of}
use Rattle.tl_types.specs.declared.ticket.Ticket.{Ticket}

-- the bank, the client, the channel and the serial, with dots between them
abbrev pub ticket_text : Ticket → List ℕ
ticket_text t = decimal t.bank ++ codes "." ++ decimal t.client ++ codes "." ++ letter_of t.channel ++ codes "." ++ decimal t.serial
