-- The ways on which one worker sends tickets to others, and what it sent on them (this project's own).
use Rattle.std.specs.Prelude.{◌≡◌, ℕ, Bool, ◌+◌, ◌<◌, ◌≤◌, ◌==◌, List, ◌++◌, length, map}
use Rattle.tl_tickets.specs.Ends.{InboxEnd, BellEnd}
use Rattle.tl_tickets.specs.Bell.{most_rings}
use Rattle.tl_types.specs.declared.ticket.Ticket.{Ticket}

-- a way: the receiver's inbox and bell, the tickets that the inbox handed back, and room for so many of them
pub record Way : Type 0 where
  pub inbox : InboxEnd
  pub bell : BellEnd
  pub back : List Ticket
  pub room : ℕ

-- all that was sent on a way, in order: what was put, and then what was handed back
abbrev pub sent_on : Way → List Ticket
sent_on way = way.inbox.pass.put ++ way.back

-- one more ticket may be handed back
abbrev pub HasRoom : Way → Type 0
HasRoom way = length way.back < way.room

-- no ticket that the inbox handed back waits
abbrev pub has_none_back : Way → Bool
has_none_back way = length way.back == 0

-- it rang once for each ticket that it put, as long as its seat had not rung the most that a seat rings
abbrev pub RingsAsItPuts : Way → Way → Type 0
RingsAsItPuts old new =
    (old.bell.seat.rung ≤ new.bell.seat.rung)
    × (new.bell.seat.rung < most_rings → new.bell.seat.rung + length old.inbox.pass.put ≡ old.bell.seat.rung + length new.inbox.pass.put)

-- a seat rang its bell once more, unless it had rung the most that a seat rings
abbrev pub RingsOnce : BellEnd → BellEnd → Type 0
RingsOnce old new =
    (old.seat.rung < most_rings → new.seat.rung ≡ old.seat.rung + 1)
    × (most_rings ≤ old.seat.rung → new.seat.rung ≡ old.seat.rung)

-- the inboxes and bells of one worker: its own, the ways to others, and the done bell
pub record Post : Type 0 where
  pub inbox : InboxEnd
  pub bell : BellEnd
  pub ways : List Way
  pub done : BellEnd

-- what was sent on each way
abbrev pub sent_by : Post → List (List Ticket)
sent_by post = map sent_on post.ways
