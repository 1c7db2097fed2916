-- How many events a block still owes, and that every run ends (this project's own theorem).
use Rattle.std.specs.Prelude.{◌≡◌, ℕ, zero, suc, ◌+◌, ◌*◌, ◌<◌, ◌≤◌, min, Bool, true, false, List, [], ◌∷◌, length, count_by, Option, Some, None, if◌then◌else◌}
use Rattle.std.specs.List.{list_any}
use Rattle.tl_types.specs.Permission.{rank, probe_perm}
use Rattle.tl_types.specs.Message.{upward_to, is_grant}
use Rattle.tl_types.specs.declared.permission.Perm.{Perm}
use Rattle.tl_types.specs.declared.permission.ProbeCap.{ProbeCap}
use Rattle.tl_types.specs.declared.message.Upward.{Upward}
use Rattle.tl_types.specs.declared.message.Upward.TheVariants.{ProbeAck, Release}
use Rattle.tl_types.specs.declared.message.Downward.{Downward}
use Rattle.tl_types.specs.declared.message.Downward.TheVariants.{Grant, ReleaseAck}
use Rattle.tl_protocol.specs.declared.client.Client.{Client}
use Rattle.tl_protocol.specs.declared.event.Event.{Event}
use Rattle.tl_protocol.specs.declared.event.Event.TheVariants.{Load, Store, SendAcquire, SendRelease}
use Rattle.tl_protocol.specs.declared.home.Accepted.{Accepted}
use Rattle.tl_protocol.specs.declared.home.Line.{Line}
use Rattle.tl_protocol.specs.declared.home.Outward.{Outward}
use Rattle.tl_protocol.specs.declared.home.Outward.TheVariants.{Quiet, Get, Data, Put, PutAck}
use Rattle.tl_protocol.specs.declared.shape.Shape.{Shape}
use Rattle.tl_protocol.specs.Protocol.{Block, block_of, after}
use Rattle.tl_protocol.specs.Runs.{MayNext, IsRun, end_of, at_reset}

-- the sum of a number for each of the first n
abbrev pub sum_below : ℕ → (ℕ → ℕ) → ℕ
sum_below zero f = 0
sum_below (suc n) f = f n + sum_below n f

-- ## What a client's messages and its record owe

-- on C: an answer to a Probe is taken, a Release is taken and its ReleaseAck too
abbrev pub owed_on_c : List Upward → ℕ
owed_on_c [] = 0
owed_on_c (ProbeAck answer ∷ rest) = 1 + owed_on_c rest
owed_on_c (Release given ∷ rest) = 2 + owed_on_c rest

-- on D: a Grant is taken and its GrantAck too, a ReleaseAck is taken
abbrev pub owed_on_d : List Downward → ℕ
owed_on_d [] = 0
owed_on_d (Grant cap bytes ∷ rest) = 2 + owed_on_d rest
owed_on_d (ReleaseAck ∷ rest) = 1 + owed_on_d rest

-- the rank that home will record at most: what it records, or less by the Probe on B, or where the answer first on C leads
abbrev pub promised : Perm → List ProbeCap → List Upward → ℕ
promised recorded (cap ∷ rest) c = min (rank recorded) (rank (probe_perm cap))
promised recorded [] (ProbeAck answer ∷ rest) = rank (upward_to (ProbeAck answer))
promised recorded [] c = rank recorded

-- An Acquire 16, a Probe 2, a GrantAck 1; each rank of the record may cost a Probe, its answer and the answer's taking.
abbrev pub owed_by : Client → ℕ
owed_by k =
    16 * length k.a + 2 * length k.b + owed_on_c k.c + owed_on_d k.d + k.e + 3 * promised k.recorded k.b k.c

-- ## What home owes

-- 9 until the Grant is sent: the Grant, its GrantAck, and a rank of 2 that is recorded with it; then nothing
abbrev pub until_grant : List Downward → ℕ → ℕ
until_grant d zero = if list_any is_grant d then 0 else 9
until_grant d (suc acks) = 0

-- for the Acquire that home serves
abbrev pub owed_until_grant : Option Accepted → (ℕ → Client) → ℕ
owed_until_grant None client = 0
owed_until_grant (Some acquire) client = until_grant (client acquire.client).d (client acquire.client).e

-- an Acquire needs home's copy: a Get, the memory's answer, its taking, and what the copy owes then
abbrev pub owed_to_fetch : Option Accepted → ℕ
owed_to_fetch None = 0
owed_to_fetch (Some acquire) = 6

-- home's copy is put, which the memory takes and acknowledges; without one a Get is on its way, or a copy is still to be fetched
abbrev pub owed_at_home : Option Line → Outward → Option Accepted → ℕ
owed_at_home (Some line) outward accepted = 3
owed_at_home None Quiet accepted = owed_to_fetch accepted
owed_at_home None Get accepted = 5
owed_at_home None (Data bytes) accepted = 4
owed_at_home None (Put bytes) accepted = 2 + owed_to_fetch accepted
owed_at_home None PutAck accepted = 1 + owed_to_fetch accepted

-- ## What a block owes, and all blocks together

-- how many events a block owes at most before a client starts something
abbrev pub work : Shape → Block → ℕ
work shape s =
    sum_below shape.clients (λ x. owed_by (s.client x)) + owed_until_grant s.accepted s.client
    + owed_at_home s.home s.outward s.accepted

-- the same of all blocks of the memory
abbrev pub work_of_all : Shape → (ℕ → Block) → ℕ
work_of_all shape s = sum_below shape.blocks (λ block. work shape (s block))

-- ## The events that a client starts, and the others

-- any event but a Load, a Store, a SendAcquire and a SendRelease
abbrev pub is_receiving : Event → Bool
is_receiving (Load access) = false
is_receiving (Store access) = false
is_receiving (SendAcquire c block grow) = false
is_receiving (SendRelease c block prune) = false
is_receiving e = true

-- whether a client asks
abbrev pub is_acquire : Event → Bool
is_acquire (SendAcquire c block grow) = true
is_acquire e = false

-- whether a client gives up
abbrev pub is_release : Event → Bool
is_release (SendRelease c block prune) = true
is_release e = false

-- what a block owes more after an event that a client starts
abbrev pub brought_by : Event → ℕ
brought_by (SendAcquire c block grow) = 16
brought_by (SendRelease c block prune) = 2
brought_by e = 0

-- ## Every run ends

-- A receiving event lowers what its block owes; another adds what it brings.
abbrev pub OwesAfter : Shape → Block → Event → Type 0
OwesAfter shape s e =
    (is_receiving e ≡ true → work shape (after shape s e) < work shape s)
    × (is_receiving e ≡ false → work shape (after shape s e) ≡ work shape s + brought_by e)

-- so it is with each event that may come next in a run; at reset nothing is owed
abbrev pub EveryReceivingEventLowers : Type 0
EveryReceivingEventLowers =
    (shape : Shape) (image : List ℕ)
    → ((block : ℕ) → work shape (at_reset shape image block) ≡ 0)
    × ((events : List Event) (e : Event) → IsRun shape image events → MayNext shape (end_of shape image events) e
    → OwesAfter shape (end_of shape image events (block_of shape e)) e)

-- What was received and what is still owed are together at most 16 for each SendAcquire and 2 for each SendRelease.
abbrev pub EveryRunOwes : Type 0
EveryRunOwes =
    (shape : Shape) (image : List ℕ) (events : List Event) → IsRun shape image events
    → count_by is_receiving events + work_of_all shape (end_of shape image events)
    ≤ 16 * count_by is_acquire events + 2 * count_by is_release events

-- So the events other than Load, Store, SendAcquire and SendRelease are at most 16 for each SendAcquire and 2 for each SendRelease.
abbrev pub EveryRunEnds : Type 0
EveryRunEnds =
    (shape : Shape) (image : List ℕ) (events : List Event) → IsRun shape image events
    → count_by is_receiving events ≤ 16 * count_by is_acquire events + 2 * count_by is_release events
