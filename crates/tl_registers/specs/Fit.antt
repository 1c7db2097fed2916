-- When a register fits the protocol's state: what it does next is then permitted (this project's own).
use Rattle.std.specs.Prelude.{◌≡◌, ◌≢◌, ℕ, ◌<◌, ◌≤◌, Bool, true, false, List, [], ◌∷◌, length, Option, Some, None}
use Rattle.tl_types.specs.Message.{upward_to}
use Rattle.tl_types.specs.Permission.{rank, probe_perm}
use Rattle.tl_types.specs.declared.message.Upward.{Upward}
use Rattle.tl_types.specs.declared.message.Upward.TheVariants.{ProbeAck, Release}
use Rattle.tl_types.specs.declared.permission.ProbeCap.{ProbeCap}
use Rattle.tl_types.specs.declared.permission.ProbeCap.TheVariants.{ToN}
use Rattle.tl_protocol.specs.declared.client.Client.{Client}
use Rattle.tl_protocol.specs.declared.event.Event.{Event}
use Rattle.tl_protocol.specs.declared.event.Event.TheVariants.{SendProbe, SendGrant, SendGet, Drop as e_Drop, SendPut}
use Rattle.tl_protocol.specs.declared.home.Accepted.{Accepted}
use Rattle.tl_protocol.specs.declared.home.Line.{Line}
use Rattle.tl_protocol.specs.declared.home.Outward.{Outward}
use Rattle.tl_protocol.specs.declared.home.Outward.TheVariants.{Quiet, Get as o_Get, Data, Put as o_Put, PutAck}
use Rattle.tl_protocol.specs.declared.shape.Shape.{Shape}
use Rattle.tl_protocol.specs.Pending.{IsServiceAt}
use Rattle.tl_protocol.specs.Protocol.{Block}
use Rattle.tl_protocol.specs.Runs.{MayNext}
use Rattle.tl_registers.specs.declared.due.Due.{Due}
use Rattle.tl_registers.specs.declared.due.Due.TheVariants.{Probe, Grant, Get, Put, Drop}
use Rattle.tl_registers.specs.declared.register.Register.{Register}
use Rattle.tl_registers.specs.declared.register.Task.{Task}
use Rattle.tl_registers.specs.declared.register.Task.TheVariants.{Acquire, Replace, Evict}
use Rattle.tl_registers.specs.NextAction.{next_due, probes_before}
use Rattle.tl_registers.specs.Pending.{is_probed, grant_pending}
use Rattle.tl_registers.specs.Register.{IsKnown, has_probed, is_above, is_other}

-- the event that an action of a register is
abbrev pub event_of : ℕ → Due → Event
event_of own (Probe c block cap) = SendProbe c block cap
event_of own (Grant c) = SendGrant c own
event_of own Get = SendGet own
event_of own (Put block) = SendPut block
event_of own (Drop block) = e_Drop block

-- ## The Probes of a block

-- each Probe asks for this cap
abbrev pub Ask : ProbeCap → List ProbeCap → Type 0
Ask cap [] = Unit {0}
Ask cap (first ∷ rest) = (first ≡ cap) × Ask cap rest

-- each answer to a Probe leaves at most this cap
abbrev pub Answer : ProbeCap → List Upward → Type 0
Answer cap [] = Unit {0}
Answer cap (ProbeAck answer ∷ rest) = (rank (upward_to (ProbeAck answer)) ≤ rank (probe_perm cap)) × Answer cap rest
Answer cap (Release given ∷ rest) = Answer cap rest

-- A client's Probe and its answer are the register's: `probed` says whether the register has probed the client, and `other`
-- whether it is another client than the one that asks.
pub record ProbeFits (k : Client) (cap : ProbeCap) (probed other : Bool) : Type 0 where
  pub sent : is_probed k ≡ true → probed ≡ true
  pub asks : Ask cap k.b
  pub answers : Answer cap k.c
  -- once its answer was taken, another client has no more than the cap
  pub answered : other ≡ true → probed ≡ true → is_probed k ≡ false → is_above k.recorded cap ≡ false

-- The Probes of a block are all one register's, with one cap.
abbrev pub ProbesFit : Shape → (ℕ → Client) → Register → Option ℕ → ProbeCap → Type 0
ProbesFit shape client r asking cap =
    (x : ℕ) → x < shape.clients → ProbeFits (client x) cap (has_probed r x) (is_other asking x)

-- no Probe is on its way to any client, and no answer to one from any
abbrev pub NobodyIsProbed : Shape → (ℕ → Client) → Type 0
NobodyIsProbed shape client = (x : ℕ) → x < shape.clients → is_probed (client x) ≡ false

-- ## A block that a register works on

-- nothing but a Put, or its acknowledgement, is under way to the memory
abbrev pub IsPutting : Outward → Type 0
IsPutting Quiet = Unit {0}
IsPutting o_Get = ⊥
IsPutting (Data bytes) = ⊥
IsPutting (o_Put bytes) = Unit {0}
IsPutting PutAck = Unit {0}

-- nothing but a Get, or its data, is under way to the memory
abbrev pub IsGetting : Outward → Type 0
IsGetting Quiet = Unit {0}
IsGetting o_Get = Unit {0}
IsGetting (Data bytes) = Unit {0}
IsGetting (o_Put bytes) = ⊥
IsGetting PutAck = ⊥

-- A block leaves home: no Acquire of it is served. Once it is gone no Probe of it is pending, and it passes to the memory.
pub record Leaves (shape : Shape) (s : Block) (r : Register) : Type 0 where
  pub probes : ProbesFit shape s.client r None ToN
  pub not_accepted : s.accepted ≡ None
  pub gone : s.home ≡ None → NobodyIsProbed shape s.client
  pub leaving : s.home ≡ None → s.outward ≢ Quiet
  pub putting : IsPutting s.outward

-- A block's Acquire is served: it is this register's.
pub record IsServed (shape : Shape) (s : Block) (r : Register) (acquire : Accepted) : Type 0 where
  pub inside : acquire.client < shape.clients
  pub accepted : s.accepted ≡ Some acquire
  pub probes : ProbesFit shape s.client r (Some acquire.client) (probes_before acquire.grow)
  pub getting : IsGetting s.outward
  -- while its Grant is pending home holds it
  pub held : grant_pending shape s ≡ true → (line : Line) × (s.home ≡ Some line)

-- A block waits until the victim has left its way: home lacks it, and asks the memory for nothing yet.
pub record Awaits (s : Block) : Type 0 where
  pub lacks : s.home ≡ None
  pub quiet : s.outward ≡ Quiet

-- the own block of a task is served, and waits where a victim leaves first; the own block of an evict task leaves
abbrev pub TaskFits : Shape → (ℕ → Block) → Register → Task → Type 0
TaskFits shape states r (Acquire acquire) = IsServed shape (states r.own) r acquire
TaskFits shape states r (Replace acquire victim) =
    IsServed shape (states r.own) r acquire × Awaits (states r.own) × Leaves shape (states victim) r
TaskFits shape states r Evict = Leaves shape (states r.own) r

-- A register fits the state.
pub record Fits (shape : Shape) (states : ℕ → Block) (r : Register) : Type 0 where
  pub known : IsKnown shape.blocks r
  -- its set of probed clients has a place for each client
  pub places : shape.clients ≤ length r.probed
  pub task : TaskFits shape states r r.task

-- What a register does next is permitted by the protocol, where each block is as every run keeps it and the register fits.
abbrev pub EveryActionIsPermitted : Type 0
EveryActionIsPermitted =
    (shape : Shape) (states : ℕ → Block) (r : Register) (due : Due)
    → ((block : ℕ) → IsServiceAt shape (states block)) → Fits shape states r
    → next_due shape states r ≡ Some due → MayNext shape states (event_of r.own due)
