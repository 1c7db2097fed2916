-- A message as it is drawn (this project's own).
use Rattle.std.specs.Prelude.{ℕ}
use Rattle.tl_types.specs.Bodies.{body_kind, body_bytes}
use Rattle.tl_types.specs.declared.message.Body.{Body}
use Rattle.tl_types.specs.declared.ticket.Ticket.{Ticket}
use Rattle.tlchart_model.specs.Lifeline.{sender, receiver}
use Rattle.tlchart_model.specs.declared.lifeline.Place.TheVariants.{Link}
use Rattle.tlchart_model.specs.declared.message.ShownMessage.{ShownMessage}

-- a message to or from a client, by its ticket from its channel's sender to its receiver
abbrev pub link_message : Ticket → ℕ → Body → ShownMessage
link_message ticket block body = record {
  place = Link ticket;
  from = sender ticket;
  to = receiver ticket;
  block = block;
  kind = body_kind body;
  bytes = body_bytes body;
}
