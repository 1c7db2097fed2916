-- One channel of a link: a list of messages with serials (this project's own; TileLink 1.8 section 4 keeps a channel in order).
use Rattle.std.specs.Prelude.{◌≡◌, ℕ, ◌+◌, ◌-◌, ◌==◌, ◌&&◌, Bool, List, [], ◌∷◌, ◌++◌, length, Option, None, nat_lt, slice_get, if◌then◌else◌}
use Rattle.tl_types.specs.Channel.{same_channel}
use Rattle.tl_types.specs.declared.channel.Channel.{Channel}
use Rattle.tl_types.specs.declared.message.Body.{Body}
use Rattle.tl_types.specs.declared.message.Message.{Message}

-- how many messages were taken, and those that wait, oldest first
pub record Lane : Type 0 where
  pub taken : ℕ
  pub messages : List Message

-- nothing was sent yet
abbrev pub empty_lane : Lane
empty_lane = record { taken = 0; messages = [] }

-- how many messages were sent: the serial of the next one
abbrev pub sent : Lane → ℕ
sent lane = lane.taken + length lane.messages

-- the message with a serial, where it waits: not one that was taken, nor one that is not sent yet
abbrev pub message_at : Lane → ℕ → Option Message
message_at lane serial = if nat_lt serial lane.taken then None else slice_get lane.messages (serial - lane.taken)

-- whether the client x and the channel l are these
abbrev pub is_here : ℕ → Channel → ℕ → Channel → Bool
is_here client channel x l = (x == client) && same_channel l channel

-- the lane after one more message is sent
abbrev pub with_message : Lane → Message → Lane
with_message lane message = record { taken = lane.taken; messages = lane.messages ++ message ∷ [] }

-- so many taken and these waiting, and the first of them, if there is one, is taken too
abbrev pub first_taken : ℕ → List Message → Lane
first_taken taken [] = record { taken = taken; messages = [] }
first_taken taken (first ∷ rest) = record { taken = taken + 1; messages = rest }

-- the lane after its first message, if there is one, is taken
abbrev pub without_first : Lane → Lane
without_first lane = first_taken lane.taken lane.messages

-- a block's list: the channel's with the other blocks' messages taken out
abbrev pub bodies_of : ℕ → List Message → List Body
bodies_of block [] = []
bodies_of block (x ∷ rest) = if x.block == block then x.body ∷ bodies_of block rest else bodies_of block rest

-- the first message that waits is of this block
abbrev pub IsFirst : ℕ → List Message → Type 0
IsFirst block [] = ⊥
IsFirst block (x ∷ rest) = x.block ≡ block
