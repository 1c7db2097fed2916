-- The protocol on one block: what home, its clients and the memory hold of it, which event may come next, and what it leaves.
-- SiFive TileLink Specification 1.8, chapters on TL-UH and TL-C.
use Rattle.std.specs.Prelude.{◌≡◌, ◌≢◌, ℕ, zero, suc, ◌/◌, ◌%◌, ◌<◌, ◌==◌, ◌&&◌, ◌||◌, Bool, true, false, List, [], ◌∷◌, Option, Some, None, if◌then◌else◌}
use Rattle.tl_types.specs.Permission.{probe_perm, rank}
use Rattle.tl_types.specs.declared.permission.Perm.{Perm}
use Rattle.tl_types.specs.declared.permission.Perm.TheVariants.{None as p_None, Branch, Tip}
use Rattle.tl_types.specs.declared.permission.Grow.{Grow}
use Rattle.tl_types.specs.declared.permission.Grow.TheVariants.{NtoB, NtoT, BtoT}
use Rattle.tl_types.specs.declared.permission.ProbeCap.{ProbeCap}
use Rattle.tl_types.specs.declared.permission.GrantCap.{GrantCap}
use Rattle.tl_types.specs.declared.permission.GrantCap.TheVariants.{ToB, ToT}
use Rattle.tl_protocol.specs.declared.event.Event.{Event}
use Rattle.tl_protocol.specs.declared.event.Event.TheVariants.{Load, Store, SendAcquire, SendRelease, AnswerProbe, TakeGrant, TakeReleaseAck, AcceptAcquire, SendProbe, TakeC, SendGrant, TakeGrantAck, SendGet, Serve, TakeData, Drop, SendPut, TakePutAck}
use Rattle.tl_protocol.specs.Access.{MayLoad, MayStore}
use Rattle.tl_protocol.specs.Home.{IsRequest, IsData}
use Rattle.tl_protocol.specs.declared.shape.Shape.{Shape}
use Rattle.tl_protocol.specs.declared.home.Line.{Line}
use Rattle.tl_protocol.specs.declared.home.Accepted.{Accepted}
use Rattle.tl_protocol.specs.declared.home.Outward.{Outward}
use Rattle.tl_protocol.specs.declared.home.Outward.TheVariants.{Quiet, Get, Data, Put, PutAck}
use Rattle.tl_protocol.specs.declared.client.Client.{Client}
use Rattle.tl_protocol.specs.Client.{fresh_client, NoProbePending, NoGrantPending, MaySendAcquire, MaySendRelease, MayAnswerProbe, MayTakeGrant, MayTakeReleaseAck, MayTakeA, MayTakeC, stored, sent_acquire, took_release_ack, sent_probe, took_grant_ack, released, answered, took_grant, sent_grant, first_bytes, took_c_from}

-- What home, the clients and the memory hold of one block.
pub record Block : Type 0 where
  pub memory : List ℕ
  pub home : Option Line
  pub accepted : Option Accepted
  pub outward : Outward
  pub client : ℕ → Client

-- at reset only the memory has bytes, and nothing is under way
abbrev pub reset : List ℕ → Block
reset bytes =
    record { memory = bytes; home = None; accepted = None; outward = Quiet; client = λ _. fresh_client }

-- no Grant of the block is pending
abbrev pub NoGrant : Shape → Block → Type 0
NoGrant shape s = (x : ℕ) → x < shape.clients → NoGrantPending (s.client x)

-- no Probe of the block is pending
abbrev pub NoProbe : Shape → Block → Type 0
NoProbe shape s = (x : ℕ) → x < shape.clients → NoProbePending (s.client x)

-- home records nobody
abbrev pub NobodyRecorded : Shape → Block → Type 0
NobodyRecorded shape s = (x : ℕ) → x < shape.clients → (s.client x).recorded ≡ p_None

-- Nothing is under way on a block, and no client has it.
pub record Idle (shape : Shape) (s : Block) : Type 0 where
  pub nobody : NobodyRecorded shape s
  pub no_probe : NoProbe shape s
  pub no_grant : NoGrant shape s
  pub not_accepted : s.accepted ≡ None
  pub quiet : s.outward ≡ Quiet

-- ## The permission that a Grant gives

-- whether a permission is None
abbrev pub is_none : Perm → Bool
is_none p_None = true
is_none Branch = false
is_none Tip = false

-- whether each of the first n clients but c is recorded None
abbrev pub is_alone : ℕ → ℕ → (ℕ → Client) → Bool
is_alone zero c client = true
is_alone (suc n) c client = ((n == c) || is_none (client n).recorded) && is_alone n c client

-- NtoB is granted toT to a client that would be alone
abbrev pub granted_cap : Grow → Bool → GrantCap
granted_cap NtoB true = ToT
granted_cap NtoB false = ToB
granted_cap NtoT alone = ToT
granted_cap BtoT alone = ToT

-- what the accepted Acquire's Grant gives, were it sent now
abbrev pub granted : Shape → Block → Accepted → GrantCap
granted shape s acquire = granted_cap acquire.grow (is_alone shape.clients acquire.client s.client)

-- the other records that a Grant is permitted beside: none above None for toT, no Tip for toB
abbrev pub RoomFor : Shape → Block → ℕ → GrantCap → Type 0
RoomFor shape s c ToT = (x : ℕ) → x < shape.clients → x ≢ c → (s.client x).recorded ≡ p_None
RoomFor shape s c ToB = (x : ℕ) → x < shape.clients → (s.client x).recorded ≢ Tip

-- ## Which event may come next

-- the block that an event is of; a load and a store are of the block of their address
abbrev pub block_of : Shape → Event → ℕ
block_of shape (Load access) = access.address / shape.block_bytes
block_of shape (Store access) = access.address / shape.block_bytes
block_of shape (SendAcquire c block grow) = block
block_of shape (SendRelease c block prune) = block
block_of shape (AnswerProbe c block) = block
block_of shape (TakeGrant c block) = block
block_of shape (TakeReleaseAck c block) = block
block_of shape (AcceptAcquire c block) = block
block_of shape (SendProbe c block cap) = block
block_of shape (TakeC c block) = block
block_of shape (SendGrant c block) = block
block_of shape (TakeGrantAck c block) = block
block_of shape (SendGet block) = block
block_of shape (Serve block) = block
block_of shape (TakeData block) = block
block_of shape (Drop block) = block
block_of shape (SendPut block) = block
block_of shape (TakePutAck block) = block

-- home probes a client that has more, while no Probe of it and no Grant of the block is pending
abbrev pub MaySendProbe : Shape → Block → ℕ → ProbeCap → Type 0
MaySendProbe shape s c cap =
    (rank (probe_perm cap) < rank (s.client c).recorded) × NoProbePending (s.client c) × NoGrant shape s

-- home grants the accepted Acquire from its copy, where the others leave room, while nothing of the block is pending
abbrev pub MaySendGrant : Shape → Block → ℕ → Type 0
MaySendGrant shape s c =
    ((grow : Grow) × (s.accepted ≡ Some (record { client = c; grow = grow }))
    × RoomFor shape s c (granted shape s (record { client = c; grow = grow })))
    × ((line : Line) × (s.home ≡ Some line))
    × NoProbe shape s × NoGrant shape s

-- home asks the memory for a block that an Acquire wants and home lacks
abbrev pub MaySendGet : Block → Type 0
MaySendGet s = ((acquire : Accepted) × (s.accepted ≡ Some acquire)) × (s.home ≡ None) × (s.outward ≡ Quiet)

-- the memory answers a request
abbrev pub MayServe : Block → Type 0
MayServe s = IsRequest s.outward

-- home takes the data that it asked for
abbrev pub MayTakeData : Block → Type 0
MayTakeData s = IsData s.outward

-- home's copy is there, clean or dirty, and nothing is under way
abbrev pub MayGiveUp : Shape → Block → Bool → Type 0
MayGiveUp shape s dirty = ((line : Line) × (s.home ≡ Some line) × (line.dirty ≡ dirty)) × Idle shape s

-- whether a block may take an event, which names a client where it has one
abbrev pub MayOn : Shape → Block → Event → Type 0
MayOn shape s (Load access) = (access.client < shape.clients) × MayLoad shape (s.client access.client) access
MayOn shape s (Store access) = (access.client < shape.clients) × MayStore shape (s.client access.client) access
MayOn shape s (SendAcquire c block grow) = (c < shape.clients) × MaySendAcquire (s.client c) grow
MayOn shape s (SendRelease c block prune) = (c < shape.clients) × MaySendRelease (s.client c) prune
MayOn shape s (AnswerProbe c block) = (c < shape.clients) × MayAnswerProbe (s.client c)
MayOn shape s (TakeGrant c block) = (c < shape.clients) × MayTakeGrant (s.client c)
MayOn shape s (TakeReleaseAck c block) = (c < shape.clients) × MayTakeReleaseAck (s.client c)
MayOn shape s (AcceptAcquire c block) = (c < shape.clients) × MayTakeA (s.client c) × (s.accepted ≡ None)
MayOn shape s (SendProbe c block cap) = (c < shape.clients) × MaySendProbe shape s c cap
MayOn shape s (TakeC c block) = (c < shape.clients) × MayTakeC (s.client c)
MayOn shape s (SendGrant c block) = (c < shape.clients) × MaySendGrant shape s c
MayOn shape s (TakeGrantAck c block) = (c < shape.clients) × (0 < (s.client c).e)
MayOn shape s (SendGet block) = MaySendGet s
MayOn shape s (Serve block) = MayServe s
MayOn shape s (TakeData block) = MayTakeData s
MayOn shape s (Drop block) = MayGiveUp shape s false
MayOn shape s (SendPut block) = MayGiveUp shape s true
MayOn shape s (TakePutAck block) = s.outward ≡ PutAck

-- the event is of a block of the memory, which may take it
abbrev pub May : Shape → Block → Event → Type 0
May shape s event = (block_of shape event < shape.blocks) × MayOn shape s event

-- ## What an event leaves

-- the block with one client changed
abbrev pub with_client : Block → ℕ → Client → Block
with_client s c k = record s { client = λ x. if x == c then k else s.client x }

-- home accepts the first Acquire of A
abbrev pub accepted_from : Block → ℕ → List Grow → Block
accepted_from s c [] = s
accepted_from s c (grow ∷ rest) =
    with_client (record s { accepted = Some (record { client = c; grow = grow }) }) c (record (s.client c) { a = rest })

-- home's copy after a message of C, whose data makes it dirty
abbrev pub home_after : Option Line → Option (List ℕ) → Option Line
home_after home None = home
home_after home (Some bytes) = Some (record { bytes = bytes; dirty = true })

-- home takes the first message of C, with its data
abbrev pub took_c : Block → ℕ → Block
took_c s c =
    with_client (record s { home = home_after s.home (first_bytes (s.client c).c) }) c (took_c_from (s.client c) (s.client c).c)

-- the bytes of home's copy
abbrev pub home_bytes : Option Line → List ℕ
home_bytes None = []
home_bytes (Some line) = line.bytes

-- home sends the Grant of the accepted Acquire
abbrev pub grants : Shape → Block → ℕ → Option Accepted → Block
grants shape s c None = s
grants shape s c (Some acquire) =
    with_client s c (sent_grant (s.client c) (granted shape s acquire) (home_bytes s.home))

-- the memory answers: a Get with its bytes, a Put by taking the bytes
abbrev pub served : Block → Outward → Block
served s Quiet = s
served s Get = record s { outward = Data s.memory }
served s (Data bytes) = s
served s (Put bytes) = record s { memory = bytes; outward = PutAck }
served s PutAck = s

-- home takes the data, which is its clean copy
abbrev pub took_data : Block → Outward → Block
took_data s Quiet = s
took_data s Get = s
took_data s (Data bytes) = record s { home = Some (record { bytes = bytes; dirty = false }); outward = Quiet }
took_data s (Put bytes) = s
took_data s PutAck = s

-- what each event leaves
abbrev pub after : Shape → Block → Event → Block
after shape s (Load access) = s
after shape s (Store access) =
    with_client s access.client (stored (s.client access.client) (access.address % shape.block_bytes) access.bytes)
after shape s (SendAcquire c block grow) = with_client s c (sent_acquire (s.client c) grow)
after shape s (SendRelease c block prune) = with_client s c (released (s.client c) prune)
after shape s (AnswerProbe c block) = with_client s c (answered (s.client c) (s.client c).b)
after shape s (TakeGrant c block) = with_client s c (took_grant (s.client c) (s.client c).d)
after shape s (TakeReleaseAck c block) = with_client s c (took_release_ack (s.client c))
after shape s (AcceptAcquire c block) = accepted_from s c (s.client c).a
after shape s (SendProbe c block cap) = with_client s c (sent_probe (s.client c) cap)
after shape s (TakeC c block) = took_c s c
after shape s (SendGrant c block) = grants shape s c s.accepted
after shape s (TakeGrantAck c block) = with_client (record s { accepted = None }) c (took_grant_ack (s.client c))
after shape s (SendGet block) = record s { outward = Get }
after shape s (Serve block) = served s s.outward
after shape s (TakeData block) = took_data s s.outward
after shape s (Drop block) = record s { home = None }
after shape s (SendPut block) = record s { home = None; outward = Put (home_bytes s.home) }
after shape s (TakePutAck block) = record s { outward = Quiet }
