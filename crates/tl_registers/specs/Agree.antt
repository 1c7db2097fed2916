-- When all open registers of a bank agree with the protocol's state (this project's own).
use Rattle.std.specs.Prelude.{◌≡◌, ◌≢◌, ℕ, ◌<◌, ◌≤◌, true, false, List, [], ◌∷◌, ◌++◌, Option, Some, None}
use Rattle.std.specs.List.{AllByRecursion}
use Rattle.tl_protocol.specs.declared.event.Event.{Event}
use Rattle.tl_protocol.specs.declared.event.Event.TheVariants.{AcceptAcquire, SendProbe, SendGrant, TakeGrantAck, SendGet, Drop, SendPut, TakePutAck}
use Rattle.tl_protocol.specs.declared.home.Outward.TheVariants.{Quiet}
use Rattle.tl_protocol.specs.declared.shape.Shape.{Shape}
use Rattle.tl_protocol.specs.Pending.{IsOrderly, IsServiceAt}
use Rattle.tl_protocol.specs.Protocol.{Block}
use Rattle.tl_protocol.specs.Runs.{MayNext, after_next, at_reset, IsRun, end_of}
use Rattle.tl_types.specs.declared.permission.Grow.{Grow}
use Rattle.tl_types.specs.declared.permission.ProbeCap.{ProbeCap}
use Rattle.tl_types.specs.declared.permission.ProbeCap.TheVariants.{ToN}
use Rattle.tl_protocol.specs.declared.home.Accepted.{Accepted}
use Rattle.tl_registers.specs.declared.due.Due.{Due}
use Rattle.tl_registers.specs.declared.due.Due.TheVariants.{Probe, Grant, Get, Put, Drop as d_Drop}
use Rattle.tl_registers.specs.declared.register.Register.{Register}
use Rattle.tl_registers.specs.declared.register.Task.{Task}
use Rattle.tl_registers.specs.declared.register.Task.TheVariants.{Acquire, Replace, Evict}
use Rattle.tl_registers.specs.declared.way_of_set.WayOfSet.{WayOfSet}
use Rattle.tl_registers.specs.Fit.{Fits, NobodyIsProbed}
use Rattle.tl_registers.specs.NextAction.{next_due, probes_before}
use Rattle.tl_registers.specs.Register.{victim_of, works_on, opened, acquire_task}
use Rattle.tl_registers.specs.Registers.{is_busy, register_of, noted, ended, closed}
use Rattle.tl_types.specs.declared.limits.TheConstants.{CLIENTS}

-- A block on which nothing is under way that a register must know of.
pub record IsAtRest (shape : Shape) (s : Block) : Type 0 where
  pub not_accepted : s.accepted ≡ None
  pub unprobed : NobodyIsProbed shape s.client
  pub quiet : s.outward ≡ Quiet

-- no two registers work on one block
abbrev pub AreApart : List Register → Type 0
AreApart [] = Unit {0}
AreApart (r ∷ rest) = ((block : ℕ) → works_on r block ≡ true → is_busy block rest ≡ false) × AreApart rest

-- The open registers and the state agree.
pub record Agree (shape : Shape) (states : ℕ → Block) (registers : List Register) : Type 0 where
  pub fits : AllByRecursion (Fits shape states) registers
  pub at_rest : (block : ℕ) → is_busy block registers ≡ false → IsAtRest shape (states block)
  pub apart : AreApart registers

-- Each block is as every run keeps it.
pub record IsSteady (shape : Shape) (states : ℕ → Block) : Type 0 where
  pub orderly : (block x : ℕ) → IsOrderly ((states block).client x)
  pub service : (block : ℕ) → IsServiceAt shape (states block)

-- the events that no register carries out, opens for or closes at: those of the clients and of the memory, and what home takes
-- of them that is not an Acquire, a GrantAck or the acknowledgement of a Put
abbrev pub LeavesRegisters : Event → Type 0
LeavesRegisters (AcceptAcquire c block) = ⊥
LeavesRegisters (SendProbe c block cap) = ⊥
LeavesRegisters (SendGrant c block) = ⊥
LeavesRegisters (TakeGrantAck c block) = ⊥
LeavesRegisters (SendGet block) = ⊥
LeavesRegisters (Drop block) = ⊥
LeavesRegisters (SendPut block) = ⊥
LeavesRegisters (TakePutAck block) = ⊥
LeavesRegisters e = Unit {0}

-- Such an event leaves the registers as they are, and they still agree.
abbrev pub EventsLeaveRegisters : Type 0
EventsLeaveRegisters =
    (shape : Shape) (states : ℕ → Block) (registers : List Register) (e : Event) → LeavesRegisters e → IsSteady shape states
    → Agree shape states registers → Agree shape (after_next shape states e) registers

-- At reset, with no register, all agree.
abbrev pub AgreeAtReset : Type 0
AgreeAtReset = (shape : Shape) (image : List ℕ) → Agree shape (at_reset shape image) []

-- Every run is steady.
abbrev pub EveryRunIsSteady : Type 0
EveryRunIsSteady =
    (shape : Shape) (image : List ℕ) (events : List Event) → IsRun shape image events
    → IsSteady shape (end_of shape image events)

-- ## What a register carries out

-- the block is the victim, probed toN, or it is the register's own, and the cap leaves room for the Grant
abbrev pub IsToProbe : Register → Task → ℕ → ProbeCap → Type 0
IsToProbe r (Acquire acquire) block cap = (block ≡ r.own) × (cap ≡ probes_before acquire.grow)
IsToProbe r (Replace acquire victim) block cap = (block ≡ victim) × (cap ≡ ToN)
IsToProbe r Evict block cap = (block ≡ r.own) × (cap ≡ ToN)

-- what an action says of the register whose it is
abbrev pub IsOf : Register → Due → Type 0
IsOf r (Probe c block cap) = IsToProbe r r.task block cap
IsOf r (Grant c) = (acquire : Accepted) × (r.task ≡ Acquire acquire) × (acquire.client ≡ c)
IsOf r Get = (acquire : Accepted) × (r.task ≡ Acquire acquire)
IsOf r (Put block) = victim_of r ≡ Some block
IsOf r (d_Drop block) = victim_of r ≡ Some block

-- What a register does next is of the block that it works on.
abbrev pub EveryActionIsOfItsRegister : Type 0
EveryActionIsOfItsRegister =
    (shape : Shape) (states : ℕ → Block) (r : Register) (due : Due) → next_due shape states r ≡ Some due → IsOf r due

-- A Probe of a register's, which it notes, keeps the agreement.
abbrev pub ProbingKeepsAgreement : Type 0
ProbingKeepsAgreement =
    (shape : Shape) (states : ℕ → Block) (registers : List Register) (r : Register) (c block : ℕ) (cap : ProbeCap)
    → IsSteady shape states → Agree shape states registers → register_of r.own registers ≡ Some r → IsToProbe r r.task block cap
    → MayNext shape states (SendProbe c block cap)
    → Agree shape (after_next shape states (SendProbe c block cap)) (noted r.own c registers)

-- A Get of a register that serves its own block keeps it.
abbrev pub FetchingKeepsAgreement : Type 0
FetchingKeepsAgreement =
    (shape : Shape) (states : ℕ → Block) (registers : List Register) (r : Register) (acquire : Accepted)
    → Agree shape states registers → register_of r.own registers ≡ Some r → r.task ≡ Acquire acquire
    → MayNext shape states (SendGet r.own) → Agree shape (after_next shape states (SendGet r.own)) registers

-- A Grant that is permitted keeps it.
abbrev pub GrantingKeepsAgreement : Type 0
GrantingKeepsAgreement =
    (shape : Shape) (states : ℕ → Block) (registers : List Register) (c own : ℕ) → Agree shape states registers
    → MayNext shape states (SendGrant c own) → Agree shape (after_next shape states (SendGrant c own)) registers

-- A Put of a block that a register works on keeps it.
abbrev pub PuttingKeepsAgreement : Type 0
PuttingKeepsAgreement =
    (shape : Shape) (states : ℕ → Block) (registers : List Register) (block : ℕ) → Agree shape states registers
    → MayNext shape states (SendPut block) → is_busy block registers ≡ true
    → Agree shape (after_next shape states (SendPut block)) registers

-- A drop keeps it, which ends the victim.
abbrev pub DroppingKeepsAgreement : Type 0
DroppingKeepsAgreement =
    (shape : Shape) (states : ℕ → Block) (registers : List Register) (block : ℕ) → Agree shape states registers
    → MayNext shape states (Drop block) → Agree shape (after_next shape states (Drop block)) (ended block registers)

-- ## Registers open and close

-- home lacks the own block, and the victim is another block of the memory, which home holds and on which no register works
abbrev pub IsFreeVictim : Shape → (ℕ → Block) → List Register → ℕ → Option ℕ → Type 0
IsFreeVictim shape states registers own None = Unit {0}
IsFreeVictim shape states registers own (Some victim) =
    (victim < shape.blocks) × (victim ≢ own) × (is_busy victim registers ≡ false) × ((states own).home ≡ None)
    × ((states victim).home ≢ None)

-- A register that opens for an accepted Acquire, of a block and a victim that no register works on, keeps the agreement.
abbrev pub AcceptingKeepsAgreement : Type 0
AcceptingKeepsAgreement =
    (shape : Shape) (states : ℕ → Block) (registers : List Register) (c own : ℕ) (grow : Grow) (rest : List Grow) (way : WayOfSet)
    (victim : Option ℕ) → IsSteady shape states → Agree shape states registers → shape.clients ≤ CLIENTS
    → MayNext shape states (AcceptAcquire c own) → ((states own).client c).a ≡ grow ∷ rest → is_busy own registers ≡ false
    → IsFreeVictim shape states registers own victim
    → Agree shape (after_next shape states (AcceptAcquire c own))
    (registers ++ opened own way (acquire_task (record { client = c; grow = grow }) victim) ∷ [])

-- An evict register that opens for a block that home holds, and on which no register works, keeps it.
abbrev pub EvictingKeepsAgreement : Type 0
EvictingKeepsAgreement =
    (shape : Shape) (states : ℕ → Block) (registers : List Register) (own : ℕ) (way : WayOfSet) → IsSteady shape states
    → Agree shape states registers → shape.clients ≤ CLIENTS → own < shape.blocks → is_busy own registers ≡ false
    → (states own).home ≢ None → Agree shape states (registers ++ opened own way Evict ∷ [])

-- A register that closes when its GrantAck is taken keeps it.
abbrev pub ClosingKeepsAgreement : Type 0
ClosingKeepsAgreement =
    (shape : Shape) (states : ℕ → Block) (registers : List Register) (c own : ℕ) → IsSteady shape states
    → Agree shape states registers → MayNext shape states (TakeGrantAck c own)
    → Agree shape (after_next shape states (TakeGrantAck c own)) (closed own registers)

-- A victim that ends when its Put's acknowledgement is taken keeps it.
abbrev pub EndingKeepsAgreement : Type 0
EndingKeepsAgreement =
    (shape : Shape) (states : ℕ → Block) (registers : List Register) (victim : ℕ) → IsSteady shape states
    → Agree shape states registers → MayNext shape states (TakePutAck victim)
    → Agree shape (after_next shape states (TakePutAck victim)) (ended victim registers)
