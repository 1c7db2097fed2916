-- What a monitor at a client's pins sees of a run (this project's own; the channels and their messages are those of TileLink 1.8,
-- sections 3, 6 and 9).
use Rattle.std.specs.Prelude.{◌≡◌, ◌==◌, ◌/◌, ◌&&◌, ℕ, Bool, true, false, List, [], ◌∷◌, ◌++◌, filter, Option, Some, None, if◌then◌else◌}
use Rattle.tl_types.specs.Codes.{channel_of}
use Rattle.tl_types.specs.declared.channel.Channel.{Channel}
use Rattle.tl_types.specs.declared.channel.Channel.TheVariants as channel
use Rattle.tl_types.specs.declared.message.Body.TheVariants as body
use Rattle.tl_types.specs.declared.message.Downward.{Downward}
use Rattle.tl_protocol.specs.declared.event.Event.{Event}
use Rattle.tl_protocol.specs.declared.event.Event.TheVariants.{Load as e_Load, Store as e_Store, SendAcquire, SendRelease, AnswerProbe, TakeGrant, TakeReleaseAck}
use Rattle.tl_protocol.specs.declared.shape.Shape.{Shape}
use Rattle.tl_protocol.specs.Protocol.{Block, block_of}
use Rattle.tl_protocol.specs.Runs.{IsRun, at_reset, after_next}
use Rattle.tlwire_search.specs.Explained.{as_list, seen_of, shown_as}
use Rattle.tlwire_search.specs.declared.seen.Seen.{Seen}
use Rattle.tlwire_search.specs.declared.seen.Seen.TheVariants.{OnLink, OnMemory, Load, Store}
use Rattle.tlwire_pins.specs.declared.view.Cores.{Cores}
use Rattle.tlwire_pins.specs.declared.view.Cores.TheVariants.{Watched, Unseen}

-- ## What is seen of a run

-- the first message of D, on a client's link
abbrev pub taken_seen : ℕ → ℕ → List Downward → Option Seen
taken_seen c block [] = None
taken_seen c block (message ∷ rest) = Some (OnLink c block (shown_as (body.Downward message)))

-- What is seen at the pins of the client that an event names, where the block before it is s: a load, a store, and a message on A or C
-- as the client sends it; a message on D as the client takes it.
abbrev pub line_of : Shape → Block → Event → Option Seen
line_of shape s (e_Load access) = seen_of shape s (e_Load access)
line_of shape s (e_Store access) = seen_of shape s (e_Store access)
line_of shape s (SendAcquire c block grow) = seen_of shape s (SendAcquire c block grow)
line_of shape s (SendRelease c block prune) = seen_of shape s (SendRelease c block prune)
line_of shape s (AnswerProbe c block) = seen_of shape s (AnswerProbe c block)
line_of shape s (TakeGrant c block) = taken_seen c block (s.client c).d
line_of shape s (TakeReleaseAck c block) = taken_seen c block (s.client c).d
line_of shape s e = None

-- what is seen of these events at the pins of their clients, in order of time, from a state on
abbrev pub lines_from : Shape → (ℕ → Block) → List Event → List Seen
lines_from shape s [] = []
lines_from shape s (e ∷ es) = as_list (line_of shape (s (block_of shape e)) e) ++ lines_from shape (after_next shape s e) es

-- a message, and no load and no store
abbrev pub is_message : Seen → Bool
is_message (OnLink c block message) = true
is_message (OnMemory block message) = true
is_message (Load c address bytes) = false
is_message (Store c address bytes) = false

-- what a monitor tells of these lines: all; but no load and no store, where nobody watched the core
abbrev pub told : Cores → List Seen → List Seen
told Watched lines = lines
told Unseen lines = filter is_message lines

-- ## What a record has of it

-- a client sends on A and C, and takes from D
abbrev pub is_told : Channel → Bool
is_told channel.A = true
is_told channel.B = false
is_told channel.C = true
is_told channel.D = true
is_told channel.E = false

-- this is seen at the pins of a client, of a block: a load, a store or a message on A, C or D
abbrev pub is_own : Shape → ℕ → ℕ → Seen → Bool
is_own shape c block (OnLink x b message) = (x == c) && (b == block) && is_told (channel_of message.kind)
is_own shape c block (OnMemory b message) = false
is_own shape c block (Load x address bytes) = (x == c) && (address / shape.block_bytes == block)
is_own shape c block (Store x address bytes) = (x == c) && (address / shape.block_bytes == block)

-- what of a record is, in order
abbrev pub own : Shape → ℕ → ℕ → List Seen → List Seen
own shape c block [] = []
own shape c block (x ∷ rest) = if is_own shape c block x then x ∷ own shape c block rest else own shape c block rest

-- a load or a store of a client is told at its pins
abbrev pub is_core_told : Cores → ℕ → ℕ → Bool
is_core_told Watched c x = x == c
is_core_told Unseen c x = false

-- this is told at the pins of a client
abbrev pub is_of_client : Cores → ℕ → Seen → Bool
is_of_client cores c (OnLink x b message) = (x == c) && is_told (channel_of message.kind)
is_of_client cores c (OnMemory b message) = false
is_of_client cores c (Load x address bytes) = is_core_told cores c x
is_of_client cores c (Store x address bytes) = is_core_told cores c x

-- of each block, what is told of lines at a client's pins is the record's in order, and maybe more behind it
abbrev pub KeepsOrder : Cores → Shape → ℕ → List Seen → List Seen → Type 0
KeepsOrder cores shape c lines seen =
    (block : ℕ) → (unseen : List Seen) × (own shape c block (told cores lines) ≡ own shape c block seen ++ unseen)

-- A run is seen so at the pins of a client: it is lawful, and of each block the record has what is told there of the
-- run, in order of time. What comes behind that was seen no more, since the monitor had stopped. Messages on B and E
-- are left out, and so is the order between two blocks: they may be seen at any time.
pub record IsSeenAt
    (cores : Cores) (c : ℕ) (shape : Shape) (image : List ℕ) (seen : List Seen) (run : List Event) : Type 0 where
  pub lawful : IsRun shape image run
  pub each : KeepsOrder cores shape c (lines_from shape (at_reset shape image) run) seen
