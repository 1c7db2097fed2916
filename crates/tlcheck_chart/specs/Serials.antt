-- Which message of its channel an event takes: the first that is of its block (this project's own).
use Rattle.std.specs.Prelude.{◌≡◌, ℕ, ◌+◌, ◌*◌, ◌<◌, ◌==◌, List, [], ◌∷◌, ◌++◌, length, Option, Some, None, IfSome, if◌then◌else◌, slice_index_or}
use Rattle.std.specs.List.{remove}
use Rattle.std.specs.Option.{option_map}
use Rattle.tl_types.specs.Channel.{channel_index}
use Rattle.tl_types.specs.Lane.{is_here}
use Rattle.tl_types.specs.declared.channel.Channel.{Channel}
use Rattle.tl_types.specs.declared.ticket.Ticket.{Ticket}
use Rattle.tl_protocol.specs.Protocol.{block_of}
use Rattle.tl_protocol.specs.declared.event.Event.{Event}
use Rattle.tl_protocol_lanes.specs.Lanes.{LinkChannel, Post, post_of, take_of}
use Rattle.tlcheck_rules.specs.Judged.{JudgeState, own_block}
use Rattle.tlchart_model.specs.Message.{link_message}
use Rattle.tlchart_model.specs.declared.lifeline.Place.{Place}
use Rattle.tlchart_model.specs.declared.lifeline.Place.TheVariants.{Link}
use Rattle.tlchart_model.specs.declared.message.ShownMessage.{ShownMessage}
use Rattle.tlchart_model.specs.declared.turn.Turn.{Turn}
use Rattle.tlcheck_chart.specs.Lanes.{LaneState}
use Rattle.tlcheck_chart.specs.declared.serials.Sent.{Sent}
use Rattle.tlcheck_chart.specs.declared.serials.Serials.{Serials}

-- ## One channel

-- nothing was sent yet
abbrev pub empty_lane : LaneState
empty_lane = record { count = 0; waiting = [] }

-- the number of the first message that is of a block
abbrev pub first_of : ℕ → List Sent → Option ℕ
first_of block [] = None
first_of block (sent ∷ rest) = if sent.block == block then Some sent.serial else first_of block rest

-- the messages but for that one
abbrev pub without : ℕ → List Sent → List Sent
without block [] = []
without block (sent ∷ rest) = if sent.block == block then rest else sent ∷ without block rest

-- that message is at this place
pub record IsFirstAt (block : ℕ) (messages : List Sent) (place : ℕ) : Type 0 where
  pub inside : place < length messages
  pub number : (other : Sent) → first_of block messages ≡ Some (slice_index_or messages place other).serial
  pub left : without block messages ≡ remove messages place

-- no message is of the block
pub record HasNoneOf (block : ℕ) (messages : List Sent) : Type 0 where
  pub number : first_of block messages ≡ None
  pub left : without block messages ≡ messages

-- the channel after that one is taken
abbrev pub with_taken : ℕ → LaneState → LaneState
with_taken block lane = record { count = lane.count; waiting = without block lane.waiting }

-- the channel after a message of a block is sent, whose number is how many were sent before it
abbrev pub with_sent : ℕ → LaneState → LaneState
with_sent block lane = record {
  count = lane.count + 1;
  waiting = lane.waiting ++ record { block = block; serial = lane.count } ∷ [];
}

-- ## All channels

-- a client's channel
unfoldable pub lane_at : Serials → ℕ → Channel → LaneState
lane_at serials client channel = slice_index_or serials.lanes.items (client * 5 + channel_index channel) empty_lane

-- the ticket of the message with a number, at the one home of a record
abbrev pub ticket_at : ℕ → Channel → ℕ → Ticket
ticket_at client channel serial = record { bank = 0; client = client; channel = channel; serial = serial }

-- where the first message of a channel that is of a block waits
abbrev pub place_taken : Serials → ℕ → LinkChannel → Option Place
place_taken serials block link =
    option_map (λ serial. Link (ticket_at link.client link.channel serial))
    (first_of block (lane_at serials link.client link.channel).waiting)

-- a message of a block, as it is drawn that is sent next
abbrev pub message_sent : Serials → ℕ → Post → ShownMessage
message_sent serials block post =
    link_message (ticket_at post.client post.channel (lane_at serials post.client post.channel).count) block post.body

-- a client's channel after the first message of a block is taken from a channel, if one is
abbrev pub removed : Option LinkChannel → ℕ → ℕ → Channel → LaneState → LaneState
removed None block x k lane = lane
removed (Some link) block x k lane = if is_here link.client link.channel x k then with_taken block lane else lane

-- and after a message of a block is sent, if one is
abbrev pub joined : Option Post → ℕ → ℕ → Channel → LaneState → LaneState
joined None block x k lane = lane
joined (Some post) block x k lane = if is_here post.client post.channel x k then with_sent block lane else lane

-- A turn is that of an event that may come next: it takes the first message of its channel that is of its block, and what it sends gets
-- the next number of its channel.
pub record IsDone (judge : JudgeState) (e : Event) (old new : Serials) (turn : Turn) : Type 0 where
  pub takes : IfSome (take_of e) (λ link. turn.takes ≡ place_taken old (block_of judge.plain.shape e) link)
  pub sends :
      IfSome (post_of judge.plain.shape (own_block judge e) e)
      (λ post. turn.sends ≡ Some (message_sent old (block_of judge.plain.shape e) post))
  pub lanes :
      (x : ℕ) (k : Channel)
      → lane_at new x k
      ≡ joined (post_of judge.plain.shape (own_block judge e) e) (block_of judge.plain.shape e) x k
      (removed (take_of e) (block_of judge.plain.shape e) x k (lane_at old x k))
