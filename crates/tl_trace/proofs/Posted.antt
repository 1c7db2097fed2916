-- The message that an event sent waits where its ticket says.
use Rattle.std.proofs.Common.{◌≡◌, Option, Some, IsSome, refl, sym, subst}
use Rattle.std.specs.Prelude.{IfSome}
use Rattle.tl_types.specs.declared.message.Message.{Message}
use Rattle.tl_types.specs.declared.ticket.Ticket.{Ticket}
use Rattle.tl_protocol.specs.declared.event.Event.{Event}
use Rattle.tl_bank_spec.specs.Delivered.{Sends}
use Rattle.tl_bank_spec.specs.View.{View}
use Rattle.tl_trace.specs.Ready.{IsThere}

-- a message that was sent waits under its ticket
pub there : (v w : View) (e : Event) (ticket : Ticket) → Sends v w e ticket → IsThere w ticket
there v w e ticket sends = subst (λ (o : Option Message). IsSome o) (sym sends.waits) refl

-- so does one that was sent, if any was
pub there-if : (v w : View) (e : Event) (sent : Option Ticket) (ticket : Ticket) → sent ≡ Some ticket
    → IfSome sent (λ t. Sends v w e t) → IsThere w ticket
there-if v w e sent ticket is sends =
    there v w e ticket (subst (λ (o : Option Ticket). IfSome o (λ t. Sends v w e t)) is sends)
