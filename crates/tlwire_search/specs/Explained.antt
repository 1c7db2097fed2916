-- What a monitor on the links sees of a run, and when a run explains what one saw (this project's own; the channels and their messages
-- are those of TileLink 1.8, sections 3, 6 and 9).
use Rattle.std.specs.Prelude.{◌≡◌, ◌==◌, ◌<◌, ℕ, Bool, true, false, List, [], ◌∷◌, ◌++◌, length, Option, Some, None, if◌then◌else◌}
use Rattle.tl_types.specs.Bodies.{body_kind, body_bytes}
use Rattle.tl_types.specs.Channel.{same_channel}
use Rattle.tl_types.specs.Codes.{channel_of}
use Rattle.tl_types.specs.Lane.{is_here}
use Rattle.tl_types.specs.declared.kind.Kind.{Kind}
use Rattle.tl_types.specs.declared.kind.Kind.TheVariants as kind
use Rattle.tl_types.specs.declared.message.Body.{Body}
use Rattle.tl_protocol.specs.declared.event.Event.{Event}
use Rattle.tl_protocol.specs.declared.event.Event.TheVariants.{Load as e_Load, Store as e_Store, SendGet, Serve, SendPut}
use Rattle.tl_protocol.specs.declared.home.Outward.{Outward}
use Rattle.tl_protocol.specs.declared.home.Outward.TheVariants.{Quiet, Get, Data, Put, PutAck}
use Rattle.tl_protocol.specs.declared.shape.Shape.{Shape}
use Rattle.tl_protocol.specs.Protocol.{Block, block_of, home_bytes}
use Rattle.tl_protocol.specs.Runs.{IsRun, at_reset, after_next}
use Rattle.tl_protocol_lanes.specs.Lanes.{Post, post_of}
use Rattle.tlcheck_rules.specs.declared.entry.Shown.{Shown}
use Rattle.tlwire_search.specs.Premises.{may_have_more}
use Rattle.tlwire_search.specs.declared.answer.Explanation.{Explanation}
use Rattle.tlwire_search.specs.declared.answer.Explanation.TheVariants.{Explained, NotExplained}
use Rattle.tlwire_search.specs.declared.premises.Premises.{Premises}
use Rattle.tlwire_search.specs.declared.seen.Seen.{Seen}
use Rattle.tlwire_search.specs.declared.seen.Seen.TheVariants.{OnLink, OnMemory, Load, Store}
use Rattle.tlwire_search.specs.declared.seen.Wire.{Wire}
use Rattle.tlwire_search.specs.declared.seen.Wire.TheVariants.{Link, Memory, Core}

-- ## Where something is seen

-- a message on the channel of its kind, a load or a store at the core
abbrev pub wire_of : Seen → Wire
wire_of (OnLink client block message) = Link client (channel_of message.kind)
wire_of (OnMemory block message) = Memory (channel_of message.kind)
wire_of (Load client address bytes) = Core client
wire_of (Store client address bytes) = Core client

-- whether two are one
abbrev pub same_wire : Wire → Wire → Bool
same_wire (Link client channel) (Link x l) = is_here client channel x l
same_wire (Link client channel) (Memory l) = false
same_wire (Link client channel) (Core x) = false
same_wire (Memory channel) (Link x l) = false
same_wire (Memory channel) (Memory l) = same_channel l channel
same_wire (Memory channel) (Core x) = false
same_wire (Core client) (Link x l) = false
same_wire (Core client) (Memory l) = false
same_wire (Core client) (Core x) = x == client

-- what of this is seen there, in order
abbrev pub on : Wire → List Seen → List Seen
on wire [] = []
on wire (s ∷ rest) = if same_wire wire (wire_of s) then s ∷ on wire rest else on wire rest

-- ## What is seen of a run

-- a message as a monitor sees it: its kind and its bytes
abbrev pub shown_as : Body → Shown
shown_as body = record { kind = body_kind body; bytes = body_bytes body }

-- a message of a block that is sent on a link
abbrev pub link_seen : ℕ → Option Post → Option Seen
link_seen block None = None
link_seen block (Some post) = Some (OnLink post.client block (shown_as post.body))

-- a message of a block between home and the memory
abbrev pub memory_seen : ℕ → Kind → Option (List ℕ) → Option Seen
memory_seen block kind bytes = Some (OnMemory block (record { kind = kind; bytes = bytes }))

-- the memory's answer: its bytes for a Get, an acknowledgement for a PutFullData
abbrev pub answer_seen : ℕ → List ℕ → Outward → Option Seen
answer_seen block memory Quiet = None
answer_seen block memory Get = memory_seen block kind.AccessAckData (Some memory)
answer_seen block memory (Data bytes) = None
answer_seen block memory (Put bytes) = memory_seen block kind.AccessAck None
answer_seen block memory PutAck = None

-- what is seen of an event, where the block before it is s: the message that it sends, or the load or the store that it is
abbrev pub seen_of : Shape → Block → Event → Option Seen
seen_of shape s (e_Load access) = Some (Load access.client access.address access.bytes)
seen_of shape s (e_Store access) = Some (Store access.client access.address access.bytes)
seen_of shape s (SendGet block) = memory_seen block kind.Get None
seen_of shape s (SendPut block) = memory_seen block kind.PutFullData (Some (home_bytes s.home))
seen_of shape s (Serve block) = answer_seen block s.memory s.outward
seen_of shape s e = link_seen (block_of shape e) (post_of shape s e)

-- that, if it is something
abbrev pub as_list : Option Seen → List Seen
as_list None = []
as_list (Some s) = s ∷ []

-- what is seen of these events, from a state on
abbrev pub seen_from : Shape → (ℕ → Block) → List Event → List Seen
seen_from shape s [] = []
seen_from shape s (e ∷ es) = as_list (seen_of shape (s (block_of shape e)) e) ++ seen_from shape (after_next shape s e) es

-- what is seen of a run from reset over an image
abbrev pub seen_along : Shape → List ℕ → List Event → List Seen
seen_along shape image run = seen_from shape (at_reset shape image) run

-- ## Explanations

-- what the record has of a wire is all that is seen there of a run, or its beginning where more may have been sent
abbrev pub IsSeenOn : Bool → List Seen → List Seen → Type 0
IsSeenOn false all seen = all ≡ seen
IsSeenOn true all seen = (unseen : List Seen) × (all ≡ seen ++ unseen)

-- A run explains what a monitor saw, so far as the record's header says how: it is lawful, and on each channel and at each core just that
-- is seen of it, in that order; what comes behind that was not seen, where the record was cut or nobody watched. Between two channels no
-- order is kept, since the buffers of a network delay what a monitor sees on each of them. Nor is one in what an agent takes from a
-- channel: of each block it takes the messages in their order, and of several blocks in any (TileLink 1.8, section 9).
pub record Explains (premises : Premises) (shape : Shape) (image : List ℕ) (seen : List Seen) (run : List Event) : Type 0 where
  pub lawful : IsRun shape image run
  pub seen_there : (wire : Wire) → IsSeenOn (may_have_more premises wire) (on wire (seen_along shape image run)) (on wire seen)

-- What is answered: a run that explains what was seen; or a place in it, of which nothing else is claimed.
abbrev pub IsExplanation : Premises → Shape → List ℕ → List Seen → Explanation → Type 0
IsExplanation premises shape image seen (Explained run) = Explains premises shape image seen run.items
IsExplanation premises shape image seen (NotExplained place limit) = place < length seen
