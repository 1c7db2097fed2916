-- What is told of an event of a bank's log, and of the room for more.
use Rattle.std.specs.Prelude.{◌≡◌, ◌⊎◌, ℕ, ◌<◌, ◌≤◌, Option, Some, None, nat_lt, slice_get, if◌then◌else◌}
use Rattle.tl_types.specs.Codes.{grow_param, probe_param, prune_param}
use Rattle.tl_protocol.specs.Protocol.{block_of}
use Rattle.tl_protocol.specs.declared.event.Access.{Access}
use Rattle.tl_protocol.specs.declared.event.Event.{Event}
use Rattle.tl_protocol.specs.declared.event.Event.TheVariants.{Load, Store, SendAcquire, SendRelease, AnswerProbe, TakeGrant, TakeReleaseAck, AcceptAcquire, SendProbe, TakeC, SendGrant, TakeGrantAck, SendGet, Serve, TakeData, Drop, SendPut, TakePutAck}
use Rattle.tl_protocol.specs.declared.shape.Shape.{Shape}
use Rattle.tl_bank_spec.specs.View.{View, shape_of}
use Rattle.tl_trace.specs.NetworkState.{NetworkState, IsForgotten, IsReserved, IsShort}
use Rattle.tl_embed.specs.Told.{only, with_bytes}
use Rattle.tl_embed.specs.declared.answer.Answer.{Answer}

-- ## Events

-- the number of a kind of event (this project's own)
abbrev pub event_number : Event → ℕ
event_number (Load access) = 0
event_number (Store access) = 1
event_number (SendAcquire client block grow) = 2
event_number (SendRelease client block prune) = 3
event_number (AnswerProbe client block) = 4
event_number (TakeGrant client block) = 5
event_number (TakeReleaseAck client block) = 6
event_number (AcceptAcquire client block) = 7
event_number (SendProbe client block cap) = 8
event_number (TakeC client block) = 9
event_number (SendGrant client block) = 10
event_number (TakeGrantAck client block) = 11
event_number (SendGet block) = 12
event_number (Serve block) = 13
event_number (TakeData block) = 14
event_number (Drop block) = 15
event_number (SendPut block) = 16
event_number (TakePutAck block) = 17

-- a client, and the param of the message that it sends or is sent
abbrev pub of_client : ℕ → ℕ → Answer
of_client client param = record (only 0) { client = client; param = param }

-- who makes an access, its address, index and stamp, and its bytes
abbrev pub of_access : Access → Answer
of_access access =
    with_bytes access.bytes
    (record (only 0) { client = access.client; address = access.address; index = access.index; serial = access.stamp })

-- what an event carries beside its block: its client, 0 where it has none; the param of an Acquire, a Release or a Probe; its access
abbrev pub carried : Event → Answer
carried (Load access) = of_access access
carried (Store access) = of_access access
carried (SendAcquire client block grow) = of_client client (grow_param grow)
carried (SendRelease client block prune) = of_client client (prune_param prune)
carried (AnswerProbe client block) = of_client client 0
carried (TakeGrant client block) = of_client client 0
carried (TakeReleaseAck client block) = of_client client 0
carried (AcceptAcquire client block) = of_client client 0
carried (SendProbe client block cap) = of_client client (probe_param cap)
carried (TakeC client block) = of_client client 0
carried (SendGrant client block) = of_client client 0
carried (TakeGrantAck client block) = of_client client 0
carried (SendGet block) = only 0
carried (Serve block) = only 0
carried (TakeData block) = only 0
carried (Drop block) = only 0
carried (SendPut block) = only 0
carried (TakePutAck block) = only 0

-- a whole event: its kind, its block, and all that it carries
abbrev pub event_told : Shape → Event → Answer
event_told shape event = record (carried event) { what = 6; opcode = event_number event; place = block_of shape event }

-- an event, or that the log has none at that place
abbrev pub event_or_none : Shape → Option Event → Answer
event_or_none shape None = only 4
event_or_none shape (Some event) = event_told shape event

-- an event, that it is forgotten, or that the log has none at that place
abbrev pub event_shown : View → ℕ → Answer
event_shown v place =
    if nat_lt place v.forgotten then only 19 else event_or_none (shape_of v.geometry) (slice_get v.log place)

-- ## Room

-- There is no such bank, or its log has the room that is asked for, or there was no memory for it, which changed nothing.
pub record Reserves (bank count : ℕ) (old new : NetworkState) (told : Answer) : Type 0 where
  pub absent : old.geometry.banks ≤ bank → (new ≡ old) × (told ≡ only 10)
  pub there :
      bank < old.geometry.banks
      → (IsReserved bank count old new × (told ≡ only 0)) ⊎ (IsShort bank count old new × (told ≡ only 14))

-- There is no such bank, or it has forgotten its log so far.
pub record Forgets (bank : ℕ) (old new : NetworkState) (told : Answer) : Type 0 where
  pub absent : old.geometry.banks ≤ bank → (new ≡ old) × (told ≡ only 10)
  pub there : bank < old.geometry.banks → IsForgotten bank old new × (told ≡ only 0)
