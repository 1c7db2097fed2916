-- Each message is taken once, and in the order of sending (this project's own theorem).
use Rattle.std.specs.Prelude.{◌≡◌, ℕ, List, [], ◌∷◌, ◌++◌, length, Option, Some, None, if◌then◌else◌}
use Rattle.tl_types.specs.Lane.{is_here}
use Rattle.tl_types.specs.declared.channel.Channel.{Channel}
use Rattle.tl_types.specs.declared.message.Body.{Body}
use Rattle.tl_types.specs.declared.message.Message.{Message}
use Rattle.tl_protocol.specs.declared.event.Event.{Event}
use Rattle.tl_protocol.specs.declared.shape.Shape.{Shape}
use Rattle.tl_protocol.specs.Protocol.{Block, block_of}
use Rattle.tl_protocol.specs.Runs.{at_reset, after_next}
use Rattle.tl_protocol_lanes.specs.Lanes.{Post, LinkChannel, post_of, take_of, lane_of}
use Rattle.tl_protocol_lanes.specs.Lawful.{Lawful}
use Rattle.tl_protocol_lanes.specs.Lists.{list_in}

-- the message that an event sends on the channel l of the client x, if it does
abbrev pub message_sent : Option Post → ℕ → ℕ → Channel → List Message
message_sent None block x l = []
message_sent (Some post) block x l =
    if is_here post.client post.channel x l then record { block = block; body = post.body } ∷ [] else []

-- the first of a block's list, if there is one
abbrev pub first_as : ℕ → List Body → List Message
first_as block [] = []
first_as block (body ∷ rest) = record { block = block; body = body } ∷ []

-- the message that an event takes there, if it does: the first of the list that its own block has there
abbrev pub message_taken : Option LinkChannel → Block → ℕ → ℕ → Channel → List Message
message_taken None s block x l = []
message_taken (Some place) s block x l =
    if is_here place.client place.channel x l then first_as block (list_in (s.client x) l) else []

-- the messages that these events send there, from a state on
abbrev pub sent_from : Shape → (ℕ → Block) → ℕ → Channel → List Event → List Message
sent_from shape s x l [] = []
sent_from shape s x l (e ∷ es) =
    message_sent (post_of shape (s (block_of shape e)) e) (block_of shape e) x l ++ sent_from shape (after_next shape s e) x l es

-- the messages that these events take there, from a state on
abbrev pub taken_along : Shape → (ℕ → Block) → ℕ → Channel → List Event → List Message
taken_along shape s x l [] = []
taken_along shape s x l (e ∷ es) =
    message_taken (take_of e) (s (block_of shape e)) (block_of shape e) x l ++ taken_along shape (after_next shape s e) x l es

-- all messages that a log sends there, in order
abbrev pub all_sent : Shape → List ℕ → List Event → ℕ → Channel → List Message
all_sent shape image log x l = sent_from shape (at_reset shape image) x l log

-- all messages that it takes there, in order
abbrev pub all_taken : Shape → List ℕ → List Event → ℕ → Channel → List Message
all_taken shape image log x l = taken_along shape (at_reset shape image) x l log

-- In a lawful log, what was sent on a channel is what the events took, each from its own block's list, and then what waits, in one
-- order; and the lane counts what was taken. So the message with a serial is the one that was sent in that place, and it is taken once.
abbrev pub EveryMessageIsDeliveredInOrder : Type 0
EveryMessageIsDeliveredInOrder =
    (shape : Shape) (image : List ℕ) (log : List Event) (x : ℕ) (l : Channel) → Lawful shape image log
    → (all_sent shape image log x l ≡ all_taken shape image log x l ++ (lane_of shape image log x l).messages)
    × (length (all_taken shape image log x l) ≡ (lane_of shape image log x l).taken)
