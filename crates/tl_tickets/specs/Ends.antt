-- What a thread carries of an inbox or a bell: a reference, and a pass or a seat of its own.
use Rattle.tl_tickets.specs.Inbox.{InboxView, PassView}
use Rattle.tl_tickets.specs.Bell.{BellView, SeatView}

-- an inbox, and the pass that is carried beside it
pub record InboxEnd : Type 0 where
  pub inbox : InboxView
  pub pass : PassView

-- a bell, and the seat that is carried beside it
pub record BellEnd : Type 0 where
  pub bell : BellView
  pub seat : SeatView
