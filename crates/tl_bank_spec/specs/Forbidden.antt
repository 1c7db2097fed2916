-- What the refusals mean that the protocol itself has: no event was permitted that the call could have made (this project's own).
use Rattle.std.specs.Prelude.{◌≡◌, ℕ, List, length, Some}
use Rattle.tl_types.specs.declared.channel.Channel.TheVariants.{B}
use Rattle.tl_types.specs.declared.permission.Grow.{Grow}
use Rattle.tl_types.specs.declared.permission.Prune.{Prune}
use Rattle.tl_types.specs.declared.ticket.Ticket.{Ticket}
use Rattle.tl_protocol.specs.Runs.{MayNext}
use Rattle.tl_protocol.specs.declared.event.Access.{Access}
use Rattle.tl_protocol.specs.declared.event.Event.{Event}
use Rattle.tl_protocol.specs.declared.event.Event.TheVariants.{Load, Store, SendAcquire, SendRelease, AnswerProbe, TakeGrant, TakeReleaseAck, AcceptAcquire, TakeC, TakeGrantAck, Serve, TakeData, TakePutAck}
use Rattle.tl_protocol_lanes.specs.Lawful.{Lawful}
use Rattle.tl_bank_spec.specs.Calls.{load_cases, store_cases, acquire_cases, release_cases, answer_probe_cases, take_grant_cases, take_release_ack_cases}
use Rattle.tl_bank_spec.specs.Cases.{block_named}
use Rattle.tl_bank_spec.specs.HomeCalls.{accept_cases, take_c_cases, take_grant_ack_cases, serve_memory_cases, take_memory_cases}
use Rattle.tl_bank_spec.specs.Refusal.{Case, first_of}
use Rattle.tl_bank_spec.specs.Share.{ShareView}
use Rattle.tl_bank_spec.specs.View.{View, end_at, shape_of}
use Rattle.tl_bank_spec.specs.declared.refusal.Refusal.{Refusal}
use Rattle.tl_bank_spec.specs.declared.refusal.Refusal.TheVariants.{NoPermission, Waiting, WrongFrom, NothingThere, ReleasePending}

-- the protocol permits an event at the end of a bank's log
abbrev pub MayAt : View → Event → Type 0
MayAt v e = MayNext (shape_of v.geometry) (end_at v) e

-- a call with these cases that is refused so could not have made this event
abbrev pub Forbids : View → List Case → Refusal → Event → Type 0
Forbids v cases refusal e = first_of cases ≡ Some refusal → ¬ MayAt v e

-- What a call of a client was refused by the protocol was not permitted.
pub record ForbidsClients (v : View) : Type 0 where
  -- of loads and stores, whatever their bytes and stamps
  pub load :
      (a : Access) (clock : ℕ) → Forbids v (load_cases v a.client a.address (length a.bytes) clock) NoPermission (Load a)
  pub store :
      (a : Access) (clock : ℕ) → Forbids v (store_cases v a.client a.address (length a.bytes) clock) NoPermission (Store a)
  pub acquire_waits :
      (client block : ℕ) (grow : Grow) → Forbids v (acquire_cases v client block grow) Waiting (SendAcquire client block grow)
  pub acquire_from :
      (client block : ℕ) (grow : Grow) → Forbids v (acquire_cases v client block grow) WrongFrom (SendAcquire client block grow)
  pub release_waits :
      (client block : ℕ) (prune : Prune) (share : ShareView)
      → Forbids v (release_cases v client block prune share) Waiting (SendRelease client block prune)
  pub release_from :
      (client block : ℕ) (prune : Prune) (share : ShareView)
      → Forbids v (release_cases v client block prune share) WrongFrom (SendRelease client block prune)
  -- with nothing on the channel, of whichever block
  pub answer_probe :
      (ticket : Ticket) (share : ShareView) (block : ℕ)
      → Forbids v (answer_probe_cases v ticket share) NothingThere (AnswerProbe ticket.client block)
  pub take_grant :
      (ticket : Ticket) (share : ShareView) (block : ℕ)
      → Forbids v (take_grant_cases v ticket share) NothingThere (TakeGrant ticket.client block)
  pub take_release_ack :
      (ticket : Ticket) (block : ℕ) → Forbids v (take_release_ack_cases v ticket) NothingThere (TakeReleaseAck ticket.client block)
  -- while a Release waits for its answer, of the block of the first Probe
  pub answer_pending :
      (ticket : Ticket) (share : ShareView)
      → Forbids v (answer_probe_cases v ticket share) ReleasePending (AnswerProbe ticket.client (block_named v ticket B))

-- What a call of home or of the memory was refused by the protocol was not permitted.
pub record ForbidsHome (v : View) : Type 0 where
  -- with nothing on the channel, of whichever block
  pub accept :
      (ticket : Ticket) (block : ℕ) → Forbids v (accept_cases v ticket) NothingThere (AcceptAcquire ticket.client block)
  pub take_c : (ticket : Ticket) (block : ℕ) → Forbids v (take_c_cases v ticket) NothingThere (TakeC ticket.client block)
  pub take_grant_ack :
      (ticket : Ticket) (block : ℕ) → Forbids v (take_grant_ack_cases v ticket) NothingThere (TakeGrantAck ticket.client block)
  -- with no request, and no answer, of the block
  pub serve_memory : (block : ℕ) → Forbids v (serve_memory_cases v block) NothingThere (Serve block)
  pub take_data : (block : ℕ) → Forbids v (take_memory_cases v block) NothingThere (TakeData block)
  pub take_put_ack : (block : ℕ) → Forbids v (take_memory_cases v block) NothingThere (TakePutAck block)

-- So it is at the end of every lawful log.
abbrev pub EveryRefusalIsTheProtocols : Type 0
EveryRefusalIsTheProtocols = (v : View) → Lawful (shape_of v.geometry) v.image v.log → ForbidsClients v × ForbidsHome v
