-- The links as a log leaves them: for each client and channel the messages of all blocks, oldest first, with serials
-- (this project's own; the messages are those of TileLink 1.8, section 9).
use Rattle.std.specs.Prelude.{ℕ, List, [], ◌∷◌, Option, Some, None, if◌then◌else◌}
use Rattle.tl_types.specs.Lane.{Lane, empty_lane, is_here, with_message, without_first}
use Rattle.tl_types.specs.Message.{probe_answer, surrender}
use Rattle.tl_types.specs.declared.channel.Channel.{Channel}
use Rattle.tl_types.specs.declared.channel.Channel.TheVariants.{A, B, C, D, E}
use Rattle.tl_types.specs.declared.permission.ProbeCap.{ProbeCap}
use Rattle.tl_types.specs.declared.message.Body.{Body}
use Rattle.tl_types.specs.declared.message.Body.TheVariants.{AcquireBlock, ProbeBlock, Upward as b_Upward, Downward as b_Downward, GrantAck}
use Rattle.tl_types.specs.declared.message.Upward.{Upward}
use Rattle.tl_types.specs.declared.message.Upward.TheVariants.{ProbeAck, Release}
use Rattle.tl_types.specs.declared.message.Downward.TheVariants.{Grant, ReleaseAck}
use Rattle.tl_protocol.specs.declared.client.Client.{Client}
use Rattle.tl_protocol.specs.declared.event.Event.{Event}
use Rattle.tl_protocol.specs.declared.event.Event.TheVariants.{SendAcquire, SendRelease, AnswerProbe, TakeGrant, TakeReleaseAck, AcceptAcquire, SendProbe, TakeC, SendGrant, TakeGrantAck}
use Rattle.tl_protocol.specs.declared.home.Accepted.{Accepted}
use Rattle.tl_protocol.specs.declared.shape.Shape.{Shape}
use Rattle.tl_protocol.specs.Client.{grant_bytes}
use Rattle.tl_protocol.specs.Copy.{perm_of, dirty_bytes}
use Rattle.tl_protocol.specs.Protocol.{Block, block_of, granted, home_bytes}
use Rattle.tl_protocol.specs.Runs.{at_reset, after_next}

-- ## What an event sends, and from where it takes

-- a message that is sent, and on which channel of which client
pub record Post : Type 0 where
  pub client : ℕ
  pub channel : Channel
  pub body : Body

-- a channel of a client
pub record LinkChannel : Type 0 where
  pub client : ℕ
  pub channel : Channel

-- a client answers its first Probe
abbrev pub answer_post : ℕ → Client → List ProbeCap → Option Post
answer_post c k [] = None
answer_post c k (cap ∷ rest) =
    Some (record { client = c; channel = C; body = b_Upward (ProbeAck (probe_answer (perm_of k.held) cap (dirty_bytes k.held))) })

-- home answers the first message of C, where it is a Release
abbrev pub ack_post : ℕ → List Upward → Option Post
ack_post c [] = None
ack_post c (ProbeAck answer ∷ rest) = None
ack_post c (Release given ∷ rest) = Some (record { client = c; channel = D; body = b_Downward ReleaseAck })

-- home grants the Acquire that it serves
abbrev pub grant_post : Shape → Block → ℕ → Option Accepted → Option Post
grant_post shape s c None = None
grant_post shape s c (Some acquire) =
    Some (record {
      client = c;
      channel = D;
      body = b_Downward (Grant (granted shape s acquire) (grant_bytes (s.client c).recorded (home_bytes s.home)));
    })

-- what an event sends, where the block before it is s
abbrev pub post_of : Shape → Block → Event → Option Post
post_of shape s (SendAcquire c block grow) = Some (record { client = c; channel = A; body = AcquireBlock grow })
post_of shape s (SendRelease c block prune) =
    Some (record { client = c; channel = C; body = b_Upward (Release (surrender prune (dirty_bytes (s.client c).held))) })
post_of shape s (AnswerProbe c block) = answer_post c (s.client c) (s.client c).b
post_of shape s (TakeGrant c block) = Some (record { client = c; channel = E; body = GrantAck })
post_of shape s (SendProbe c block cap) = Some (record { client = c; channel = B; body = ProbeBlock cap })
post_of shape s (TakeC c block) = ack_post c (s.client c).c
post_of shape s (SendGrant c block) = grant_post shape s c s.accepted
post_of shape s event = None

-- the channel of which an event takes the first message
abbrev pub take_of : Event → Option LinkChannel
take_of (AnswerProbe c block) = Some (record { client = c; channel = B })
take_of (TakeGrant c block) = Some (record { client = c; channel = D })
take_of (TakeReleaseAck c block) = Some (record { client = c; channel = D })
take_of (AcceptAcquire c block) = Some (record { client = c; channel = A })
take_of (TakeC c block) = Some (record { client = c; channel = C })
take_of (TakeGrantAck c block) = Some (record { client = c; channel = E })
take_of event = None

-- ## The lanes of a log

-- the lane of the client x and the channel l after something is taken
abbrev pub taken_from : Option LinkChannel → ℕ → Channel → Lane → Lane
taken_from None x l lane = lane
taken_from (Some place) x l lane = if is_here place.client place.channel x l then without_first lane else lane

-- and after a message of a block is sent
abbrev pub sent_to : Option Post → ℕ → ℕ → Channel → Lane → Lane
sent_to None block x l lane = lane
sent_to (Some post) block x l lane =
    if is_here post.client post.channel x l then with_message lane (record { block = block; body = post.body }) else lane

-- and after an event, which takes first
abbrev pub lane_after : Shape → Block → Event → ℕ → Channel → Lane → Lane
lane_after shape s e x l lane = sent_to (post_of shape s e) (block_of shape e) x l (taken_from (take_of e) x l lane)

-- the lane after these events, from a state and a lane on
abbrev pub lane_from : Shape → (ℕ → Block) → ℕ → Channel → Lane → List Event → Lane
lane_from shape s x l lane [] = lane
lane_from shape s x l lane (e ∷ es) =
    lane_from shape (after_next shape s e) x l (lane_after shape (s (block_of shape e)) e x l lane) es

-- The messages of a client's channel after a log: how many were taken, and those that wait.
unfoldable pub lane_of : Shape → List ℕ → List Event → ℕ → Channel → Lane
lane_of shape image log x l = lane_from shape (at_reset shape image) x l empty_lane log
