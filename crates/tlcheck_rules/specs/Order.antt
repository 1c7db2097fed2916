-- Which blocks' messages wait on each channel, oldest first, and which order of a channel a judge asks for.
use Rattle.std.specs.Prelude.{◌≡◌, ℕ, ◌+◌, ◌*◌, List, [], ◌∷◌, ◌++◌, drop, Option, Some, None, slice_index_or, if◌then◌else◌}
use Rattle.tl_types.specs.Channel.{channel_index}
use Rattle.tl_types.specs.Lane.{is_here}
use Rattle.tl_types.specs.declared.message.Body.{Body}
use Rattle.tl_protocol_lanes.specs.Lanes.{LinkChannel, Post}
use Rattle.tl_types.specs.declared.channel.Channel.{Channel}
use Rattle.tlcheck_rules.specs.declared.order.ChannelOrder.{ChannelOrder}
use Rattle.tlcheck_rules.specs.declared.order.ChannelOrder.TheVariants.{Whole, EachBlock}

-- What an order asks of an event that takes a message: that this is the first of the whole channel (TileLink leaves that to the link; it
-- is this project's own choice); or nothing, since the protocol has the messages of each block in order (TileLink 1.8, section 8).
abbrev pub Asks : ChannelOrder → Type 0 → Type 0
Asks Whole first = first
Asks EachBlock first = Unit {0}

-- how many clients there are, and the blocks of the messages of their channels
pub record Waiting : Type 0 where
  pub clients : ℕ
  pub lists : List (List ℕ)

-- the blocks of the messages that wait on a client's channel
unfoldable pub waiting_in : Waiting → ℕ → Channel → List ℕ
waiting_in order client channel = slice_index_or order.lists (client * 5 + channel_index channel) []

-- a block is the first of these
abbrev pub HeadIs : ℕ → List ℕ → Type 0
HeadIs block [] = ⊥
HeadIs block (first ∷ rest) = first ≡ block

-- the first message of the channel that is taken from, if one is, is of a block
abbrev pub IsNextIn : Waiting → ℕ → Option LinkChannel → Type 0
IsNextIn order block None = Unit {0}
IsNextIn order block (Some place) = HeadIs block (waiting_in order place.client place.channel)

-- a channel of a client
abbrev pub place_at : ℕ → Channel → LinkChannel
place_at client channel = record { client = client; channel = channel }

-- a message that is sent there
abbrev pub post_at : ℕ → Channel → Body → Post
post_at client channel body = record { client = client; channel = channel; body = body }

-- the blocks that wait after something is taken
abbrev pub removed : Option LinkChannel → ℕ → Channel → List ℕ → List ℕ
removed None x l blocks = blocks
removed (Some place) x l blocks = if is_here place.client place.channel x l then drop 1 blocks else blocks

-- and after a message of a block is sent
abbrev pub joined : Option Post → ℕ → ℕ → Channel → List ℕ → List ℕ
joined None block x l blocks = blocks
joined (Some post) block x l blocks = if is_here post.client post.channel x l then blocks ++ block ∷ [] else blocks
