-- Lawful logs: runs that take the messages of each channel in order (this project's own).
use Rattle.std.specs.Prelude.{◌≡◌, ℕ, ◌≤◌, List, [], ◌∷◌, ◌++◌, length, Option, Some, None}
use Rattle.std.specs.List.{All}
use Rattle.tl_types.specs.Codes.{channel_of}
use Rattle.tl_types.specs.Lane.{empty_lane, sent, bodies_of, IsFirst}
use Rattle.tl_types.specs.Bodies.{body_kind, body_bytes}
use Rattle.tl_types.specs.declared.channel.Channel.{Channel}
use Rattle.tl_types.specs.declared.message.Message.{Message}
use Rattle.tl_protocol.specs.declared.event.Event.{Event}
use Rattle.tl_protocol.specs.declared.shape.Shape.{Shape}
use Rattle.tl_protocol.specs.Protocol.{block_of}
use Rattle.tl_protocol.specs.Runs.{MayNext, IsRun, end_of}
use Rattle.tl_protocol.specs.Sizes.{IsWhole}
use Rattle.tl_protocol_lanes.specs.Lanes.{LinkChannel, take_of, lane_of, lane_after}
use Rattle.tl_protocol_lanes.specs.Lists.{list_in}

-- the first message that waits there is of this block
abbrev pub IsNext : Shape → List ℕ → List Event → ℕ → Option LinkChannel → Type 0
IsNext shape image log block None = Unit {0}
IsNext shape image log block (Some place) = IsFirst block (lane_of shape image log place.client place.channel).messages

-- an event that takes a message takes the first of its channel
abbrev pub TakesFirst : Shape → List ℕ → List Event → Event → Type 0
TakesFirst shape image log e = IsNext shape image log (block_of shape e) (take_of e)

-- each of these events, after a log and the ones before it, takes the first message of its channel, if it takes one
abbrev pub TakeInOrder : Shape → List ℕ → List Event → List Event → Type 0
TakeInOrder shape image log [] = Unit {0}
TakeInOrder shape image log (e ∷ es) = TakesFirst shape image log e × TakeInOrder shape image (log ++ e ∷ []) es

-- The log is a run of which each event takes the first message of its channel, if it takes one.
pub record Lawful (shape : Shape) (image : List ℕ) (log : List Event) : Type 0 where
  pub run : IsRun shape image log
  pub takes : TakeInOrder shape image [] log

-- The list of each block is the channel's, with the messages of the other blocks taken out, and no more messages were sent on a
-- channel than there are events.
pub record Interleaves (shape : Shape) (image : List ℕ) (log : List Event) : Type 0 where
  pub ordered :
      (x block : ℕ) (l : Channel)
      → list_in ((end_of shape image log block).client x) l ≡ bodies_of block (lane_of shape image log x l).messages
  pub counted : (x : ℕ) (l : Channel) → sent (lane_of shape image log x l) ≤ length log

-- ## Laws of lawful logs

-- the empty log is lawful, and nothing was sent
abbrev pub EmptyIsLawful : Type 0
EmptyIsLawful =
    (shape : Shape) (image : List ℕ)
    → Lawful shape image [] × ((x : ℕ) (l : Channel) → lane_of shape image [] x l ≡ empty_lane)

-- a lawful log interleaves the lists of its blocks
abbrev pub EveryLawfulLogInterleaves : Type 0
EveryLawfulLogInterleaves =
    (shape : Shape) (image : List ℕ) (log : List Event) → Lawful shape image log → Interleaves shape image log

-- a lawful log stays so with one more permitted event that takes the first message of its channel
abbrev pub LawfulGrowsByOne : Type 0
LawfulGrowsByOne =
    (shape : Shape) (image : List ℕ) (log : List Event) (e : Event)
    → Lawful shape image log → MayNext shape (end_of shape image log) e → TakesFirst shape image log e
    → Lawful shape image (log ++ e ∷ [])

-- one more event takes from the lanes and sends on them
abbrev pub LanesGrowByOne : Type 0
LanesGrowByOne =
    (shape : Shape) (image : List ℕ) (log : List Event) (e : Event) (x : ℕ) (l : Channel)
    → lane_of shape image (log ++ e ∷ []) x l
    ≡ lane_after shape (end_of shape image log (block_of shape e)) e x l (lane_of shape image log x l)

-- the first message of a channel is the first of its block's list there
abbrev pub FirstHeadsItsList : Type 0
FirstHeadsItsList =
    (shape : Shape) (image : List ℕ) (log : List Event) (x : ℕ) (l : Channel) (message : Message) (rest : List Message)
    → Lawful shape image log → (lane_of shape image log x l).messages ≡ message ∷ rest
    → list_in ((end_of shape image log message.block).client x) l ≡ message.body ∷ bodies_of message.block rest

-- each message that waits is of a kind that travels on its channel
abbrev pub MessagesFitTheirChannels : Type 0
MessagesFitTheirChannels =
    (shape : Shape) (image : List ℕ) (log : List Event) (x : ℕ) (l : Channel)
    → All (λ message. channel_of (body_kind message.body) ≡ l) (lane_of shape image log x l).messages

-- the data of the first message of a channel, if it has any, is a whole block
abbrev pub FirstIsWhole : Type 0
FirstIsWhole =
    (shape : Shape) (image : List ℕ) (log : List Event) (x : ℕ) (l : Channel) (message : Message) (rest : List Message)
    → Lawful shape image log → (lane_of shape image log x l).messages ≡ message ∷ rest
    → IsWhole shape.block_bytes (body_bytes message.body)
