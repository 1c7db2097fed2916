-- The rules of the protocol one by one: which of them an event is under, in the order in which they are looked at, and what each says.
-- Together they are the definition of what is permitted (TileLink 1.8, sections 7 to 9, and this project's own choices).
use Rattle.std.specs.Prelude.{◌≡◌, ◌≢◌, ℕ, ◌<◌, true, false, List, [], ◌∷◌, length, slice_index_or, Option, Some, None, IfSome}
use Rattle.tl_types.specs.Permission.{grow_from, prune_from, probe_perm, rank}
use Rattle.tl_types.specs.declared.permission.Perm.{Perm}
use Rattle.tl_types.specs.declared.permission.Perm.TheVariants.{None as p_None, Tip}
use Rattle.tl_types.specs.declared.permission.Grow.{Grow}
use Rattle.tl_types.specs.declared.permission.ProbeCap.{ProbeCap}
use Rattle.tl_types.specs.declared.wait.Awaited.TheVariants.{ForGrant, ForReleaseAck}
use Rattle.tl_protocol.specs.Access.{FitsBlock, MayLoad}
use Rattle.tl_protocol.specs.Client.{NoProbePending, MayTakeGrant, MayTakeReleaseAck}
use Rattle.tl_protocol.specs.Copy.{perm_of}
use Rattle.tl_protocol.specs.Home.{IsRequest, IsData}
use Rattle.tl_protocol.specs.Protocol.{Block, block_of, granted, RoomFor, NoGrant, NoProbe, NobodyRecorded}
use Rattle.tl_protocol.specs.Queue.{HasFirst}
use Rattle.tl_protocol.specs.declared.client.Client.{Client}
use Rattle.tl_protocol.specs.declared.event.Access.{Access}
use Rattle.tl_protocol.specs.declared.event.Event.{Event}
use Rattle.tl_protocol.specs.declared.event.Event.TheVariants.{Load, Store, SendAcquire, SendRelease, AnswerProbe, TakeGrant, TakeReleaseAck, AcceptAcquire, SendProbe, TakeC, SendGrant, TakeGrantAck, SendGet, Serve, TakeData, Drop, SendPut, TakePutAck}
use Rattle.tl_protocol.specs.declared.home.Accepted.{Accepted}
use Rattle.tl_protocol.specs.declared.home.Line.{Line}
use Rattle.tl_protocol.specs.declared.home.Outward.TheVariants.{Quiet, PutAck}
use Rattle.tl_protocol.specs.declared.shape.Shape.{Shape}
use Rattle.tlcheck_rules.specs.declared.rule.Rule.{Rule}
use Rattle.tlcheck_rules.specs.declared.rule.Rule.TheVariants.{BlockIsThere, ClientIsThere, AccessFits, CopyIsReadable, LoadHasItsBytes, CopyIsWritable, NoAcquireUnanswered, NoReleaseBesideAcquire, StartsFromItsCopy, ProbeWaits, NoReleaseUnanswered, GrantIsFirst, ReleaseAckIsFirst, AcquireWaits, ServesNoAcquire, RecordIsAbove, ClientHasNoProbe, NoGrantIsPending, OneGrantIsPending, MessageIsOnC, ServesThisClient, OthersLeaveRoom, HomeHasTheBlock, NoProbeIsPending, NothingIsPending, GrantAckWaits, ServesAnAcquire, HomeLacksTheBlock, NothingIsOutward, RequestIsOutward, DataIsOutward, PutAckIsOutward, CopyIsClean, CopyIsDirty, NobodyIsRecorded}

-- ## What an event names

-- the client that acts, or that home acts on; none is named by home's steps with the memory, and by the memory's
abbrev pub client_of : Event → ℕ
client_of (Load access) = access.client
client_of (Store access) = access.client
client_of (SendAcquire c block grow) = c
client_of (SendRelease c block prune) = c
client_of (AnswerProbe c block) = c
client_of (TakeGrant c block) = c
client_of (TakeReleaseAck c block) = c
client_of (AcceptAcquire c block) = c
client_of (SendProbe c block cap) = c
client_of (TakeC c block) = c
client_of (SendGrant c block) = c
client_of (TakeGrantAck c block) = c
client_of (SendGet block) = 0
client_of (Serve block) = 0
client_of (TakeData block) = 0
client_of (Drop block) = 0
client_of (SendPut block) = 0
client_of (TakePutAck block) = 0

-- the load or the store
abbrev pub access_of : Event → Option Access
access_of (Load access) = Some access
access_of (Store access) = Some access
access_of (SendAcquire c block grow) = None
access_of (SendRelease c block prune) = None
access_of (AnswerProbe c block) = None
access_of (TakeGrant c block) = None
access_of (TakeReleaseAck c block) = None
access_of (AcceptAcquire c block) = None
access_of (SendProbe c block cap) = None
access_of (TakeC c block) = None
access_of (SendGrant c block) = None
access_of (TakeGrantAck c block) = None
access_of (SendGet block) = None
access_of (Serve block) = None
access_of (TakeData block) = None
access_of (Drop block) = None
access_of (SendPut block) = None
access_of (TakePutAck block) = None

-- the permission that is asked for or given up from
abbrev pub from_of : Event → Option Perm
from_of (Load access) = None
from_of (Store access) = None
from_of (SendAcquire c block grow) = Some (grow_from grow)
from_of (SendRelease c block prune) = Some (prune_from prune)
from_of (AnswerProbe c block) = None
from_of (TakeGrant c block) = None
from_of (TakeReleaseAck c block) = None
from_of (AcceptAcquire c block) = None
from_of (SendProbe c block cap) = None
from_of (TakeC c block) = None
from_of (SendGrant c block) = None
from_of (TakeGrantAck c block) = None
from_of (SendGet block) = None
from_of (Serve block) = None
from_of (TakeData block) = None
from_of (Drop block) = None
from_of (SendPut block) = None
from_of (TakePutAck block) = None

-- what a Probe asks for
abbrev pub cap_of : Event → Option ProbeCap
cap_of (Load access) = None
cap_of (Store access) = None
cap_of (SendAcquire c block grow) = None
cap_of (SendRelease c block prune) = None
cap_of (AnswerProbe c block) = None
cap_of (TakeGrant c block) = None
cap_of (TakeReleaseAck c block) = None
cap_of (AcceptAcquire c block) = None
cap_of (SendProbe c block cap) = Some cap
cap_of (TakeC c block) = None
cap_of (SendGrant c block) = None
cap_of (TakeGrantAck c block) = None
cap_of (SendGet block) = None
cap_of (Serve block) = None
cap_of (TakeData block) = None
cap_of (Drop block) = None
cap_of (SendPut block) = None
cap_of (TakePutAck block) = None

-- the rules that an event is under, in the order of docs/PROTOCOL.md, Events, state and runs
abbrev pub rules_of : Event → List Rule
rules_of (Load access) = BlockIsThere ∷ ClientIsThere ∷ AccessFits ∷ CopyIsReadable ∷ LoadHasItsBytes ∷ []
rules_of (Store access) = BlockIsThere ∷ ClientIsThere ∷ AccessFits ∷ CopyIsWritable ∷ []
rules_of (SendAcquire c block grow) = BlockIsThere ∷ ClientIsThere ∷ NoAcquireUnanswered ∷ NoReleaseUnanswered ∷ StartsFromItsCopy ∷ []
rules_of (SendRelease c block prune) = BlockIsThere ∷ ClientIsThere ∷ NoReleaseUnanswered ∷ NoReleaseBesideAcquire ∷ StartsFromItsCopy ∷ []
rules_of (AnswerProbe c block) = BlockIsThere ∷ ClientIsThere ∷ ProbeWaits ∷ NoReleaseUnanswered ∷ []
rules_of (TakeGrant c block) = BlockIsThere ∷ ClientIsThere ∷ GrantIsFirst ∷ []
rules_of (TakeReleaseAck c block) = BlockIsThere ∷ ClientIsThere ∷ ReleaseAckIsFirst ∷ []
rules_of (AcceptAcquire c block) = BlockIsThere ∷ ClientIsThere ∷ AcquireWaits ∷ ServesNoAcquire ∷ []
rules_of (SendProbe c block cap) = BlockIsThere ∷ ClientIsThere ∷ RecordIsAbove ∷ ClientHasNoProbe ∷ NoGrantIsPending ∷ []
rules_of (TakeC c block) = BlockIsThere ∷ ClientIsThere ∷ MessageIsOnC ∷ []
rules_of (SendGrant c block) = BlockIsThere ∷ ClientIsThere ∷ ServesThisClient ∷ HomeHasTheBlock ∷ NoProbeIsPending ∷ OneGrantIsPending ∷ OthersLeaveRoom ∷ []
rules_of (TakeGrantAck c block) = BlockIsThere ∷ ClientIsThere ∷ GrantAckWaits ∷ []
rules_of (SendGet block) = BlockIsThere ∷ ServesAnAcquire ∷ HomeLacksTheBlock ∷ NothingIsOutward ∷ []
rules_of (Serve block) = BlockIsThere ∷ RequestIsOutward ∷ []
rules_of (TakeData block) = BlockIsThere ∷ DataIsOutward ∷ []
rules_of (Drop block) = BlockIsThere ∷ NothingIsPending ∷ NobodyIsRecorded ∷ ServesNoAcquire ∷ NothingIsOutward ∷ HomeHasTheBlock ∷ CopyIsClean ∷ []
rules_of (SendPut block) = BlockIsThere ∷ NothingIsPending ∷ NobodyIsRecorded ∷ ServesNoAcquire ∷ NothingIsOutward ∷ HomeHasTheBlock ∷ CopyIsDirty ∷ []
rules_of (TakePutAck block) = BlockIsThere ∷ PutAckIsOutward ∷ []

-- ## What each rule says

-- of a client that is there
abbrev pub OfClient : Shape → Block → Event → (Client → Type 0) → Type 0
OfClient shape s e says = (client_of e < shape.clients) × says (s.client (client_of e))

-- whether an event on a block keeps a rule
abbrev pub Keeps : Shape → Block → Event → Rule → Type 0
Keeps shape s e BlockIsThere = block_of shape e < shape.blocks
Keeps shape s e ClientIsThere = client_of e < shape.clients
Keeps shape s e AccessFits = IfSome (access_of e) (λ access. FitsBlock shape access.address access.bytes)
Keeps shape s e CopyIsReadable = OfClient shape s e (λ k. perm_of k.held ≢ p_None)
Keeps shape s e LoadHasItsBytes = OfClient shape s e (λ k. IfSome (access_of e) (λ access. MayLoad shape k access))
Keeps shape s e CopyIsWritable = OfClient shape s e (λ k. perm_of k.held ≡ Tip)
Keeps shape s e NoAcquireUnanswered = OfClient shape s e (λ k. k.wait ≢ ForGrant)
Keeps shape s e NoReleaseBesideAcquire = OfClient shape s e (λ k. k.wait ≢ ForGrant)
Keeps shape s e StartsFromItsCopy = OfClient shape s e (λ k. IfSome (from_of e) (λ from. perm_of k.held ≡ from))
Keeps shape s e ProbeWaits = OfClient shape s e (λ k. HasFirst k.b)
Keeps shape s e NoReleaseUnanswered = OfClient shape s e (λ k. k.wait ≢ ForReleaseAck)
Keeps shape s e GrantIsFirst = OfClient shape s e MayTakeGrant
Keeps shape s e ReleaseAckIsFirst = OfClient shape s e MayTakeReleaseAck
Keeps shape s e AcquireWaits = OfClient shape s e (λ k. HasFirst k.a)
Keeps shape s e ServesNoAcquire = s.accepted ≡ None
Keeps shape s e RecordIsAbove = OfClient shape s e (λ k. IfSome (cap_of e) (λ cap. rank (probe_perm cap) < rank k.recorded))
Keeps shape s e ClientHasNoProbe = OfClient shape s e NoProbePending
Keeps shape s e NoGrantIsPending = NoGrant shape s
Keeps shape s e OneGrantIsPending = NoGrant shape s
Keeps shape s e MessageIsOnC = OfClient shape s e (λ k. HasFirst k.c)
Keeps shape s e ServesThisClient = (grow : Grow) × (s.accepted ≡ Some (record { client = client_of e; grow = grow }))
Keeps shape s e OthersLeaveRoom =
    (grow : Grow) × (s.accepted ≡ Some (record { client = client_of e; grow = grow }))
    × RoomFor shape s (client_of e) (granted shape s (record { client = client_of e; grow = grow }))
Keeps shape s e HomeHasTheBlock = (line : Line) × (s.home ≡ Some line)
Keeps shape s e NoProbeIsPending = NoProbe shape s
Keeps shape s e NothingIsPending = NoProbe shape s × NoGrant shape s
Keeps shape s e GrantAckWaits = OfClient shape s e (λ k. 0 < k.e)
Keeps shape s e ServesAnAcquire = (acquire : Accepted) × (s.accepted ≡ Some acquire)
Keeps shape s e HomeLacksTheBlock = s.home ≡ None
Keeps shape s e NothingIsOutward = s.outward ≡ Quiet
Keeps shape s e RequestIsOutward = IsRequest s.outward
Keeps shape s e DataIsOutward = IsData s.outward
Keeps shape s e PutAckIsOutward = s.outward ≡ PutAck
Keeps shape s e CopyIsClean = (line : Line) × (s.home ≡ Some line) × (line.dirty ≡ false)
Keeps shape s e CopyIsDirty = (line : Line) × (s.home ≡ Some line) × (line.dirty ≡ true)
Keeps shape s e NobodyIsRecorded = NobodyRecorded shape s

-- the rule at a place of an event's list
abbrev pub rule_at : Event → ℕ → Rule
rule_at e i = slice_index_or (rules_of e) i BlockIsThere

-- the event keeps the rules before this place
abbrev pub KeepsBefore : Shape → Block → Event → ℕ → Type 0
KeepsBefore shape s e i = (k : ℕ) → k < i → Keeps shape s e (rule_at e k)

-- the first of its rules that the event does not keep, or none
abbrev pub IsFirstBroken : Shape → Block → Event → Option Rule → Type 0
IsFirstBroken shape s e None = KeepsBefore shape s e (length (rules_of e))
IsFirstBroken shape s e (Some rule) =
    (i : ℕ) × (i < length (rules_of e)) × (rule_at e i ≡ rule) × (¬ Keeps shape s e rule) × KeepsBefore shape s e i
