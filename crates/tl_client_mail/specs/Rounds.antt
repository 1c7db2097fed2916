-- The order in which tickets that wait are asked (this project's own; each channel of a link keeps its order).
use Rattle.std.specs.Prelude.{◌≡◌, ◌==◌, ℕ, Bool, true, false, ◌&&◌, List, [], ◌∷◌, ◌++◌, drop, take}
use Rattle.std.specs.List.{list_any}
use Rattle.tl_types.specs.Channel.{channel_index}
use Rattle.tl_types.specs.declared.ticket.Ticket.{Ticket}

-- tickets that wait: those that this round has kept, those that it has not come to, and room for so many of both
pub record Round : Type 0 where
  pub kept : List Ticket
  pub rest : List Ticket
  pub room : ℕ

-- two tickets are of one channel of one link
abbrev pub is_same_lane : Ticket → Ticket → Bool
is_same_lane one other = (one.bank == other.bank) && ((one.client == other.client) && (channel_index one.channel == channel_index other.channel))

-- the round has kept an earlier ticket of the same channel of the same link
abbrev pub is_barred : List Ticket → Ticket → Bool
is_barred kept ticket = list_any (λ (k : Ticket). is_same_lane k ticket) kept

-- each of these tickets was barred when it joined those kept, in order
abbrev pub AreBarred : List Ticket → List Ticket → Type 0
AreBarred kept [] = Unit {0}
AreBarred kept (ticket ∷ later) = (is_barred kept ticket ≡ true) × AreBarred (kept ++ ticket ∷ []) later

-- a ticket of this channel
abbrev pub is_on : ℕ → Ticket → Bool
is_on channel ticket = channel_index ticket.channel == channel

-- all tickets that wait, in order
abbrev pub all_of : Round → List Ticket
all_of round = round.kept ++ round.rest

-- a round once its next ticket was served, or was refused and is kept
abbrev pub once_asked : Bool → Round → Round
once_asked true round = record round { rest = drop 1 round.rest }
once_asked false round = record round { kept = round.kept ++ take 1 round.rest; rest = drop 1 round.rest }
