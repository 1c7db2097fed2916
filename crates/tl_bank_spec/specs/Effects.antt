-- What the calls of home and of the memory leave, and what they answer (this project's own).
use Rattle.std.specs.Prelude.{◌≡◌, ◌⊎◌, ℕ, ◌+◌, ◌^◌, ◌==◌, ◌≤◌, List, [], ◌∷◌, ◌++◌, Option, Some, None, if◌then◌else◌}
use Rattle.tl_types.specs.declared.channel.Channel.TheVariants.{A, B, C, D}
use Rattle.tl_types.specs.declared.message.Body.TheVariants.{AcquireBlock}
use Rattle.tl_types.specs.declared.message.Message.{Message}
use Rattle.tl_types.specs.declared.permission.Grow.{Grow}
use Rattle.tl_types.specs.declared.ticket.Ticket.{Ticket}
use Rattle.tl_map.specs.Places.{set_of}
use Rattle.tl_protocol.specs.Home.{IsData}
use Rattle.tl_protocol.specs.Protocol.{Block}
use Rattle.tl_protocol.specs.declared.event.Event.{Event}
use Rattle.tl_protocol.specs.declared.event.Event.TheVariants.{AcceptAcquire, TakeData, TakePutAck}
use Rattle.tl_protocol.specs.declared.home.Outward.TheVariants.{Get, Put, PutAck}
use Rattle.tl_memory.specs.declared.request.Reply.{Reply}
use Rattle.tl_memory.specs.declared.request.Reply.TheVariants.{AccessAckData, AccessAck}
use Rattle.tl_registers.specs.Fit.{event_of}
use Rattle.tl_registers.specs.Register.{acquire_task, opened}
use Rattle.tl_registers.specs.Registers.{ended, noted, register_of}
use Rattle.tl_registers.specs.declared.due.Due.{Due}
use Rattle.tl_registers.specs.declared.due.Due.TheVariants.{Probe as due_Probe, Grant as due_Grant, Get as due_Get, Put as due_Put, Drop as due_Drop}
use Rattle.tl_registers.specs.declared.register.Register.{Register}
use Rattle.tl_registers.specs.declared.register.Task.TheVariants.{Evict}
use Rattle.tl_bank_spec.specs.Cases.{begins, is_a_release, waiting_at}
use Rattle.tl_bank_spec.specs.HomeCases.{due_at}
use Rattle.tl_bank_spec.specs.View.{View, end_at}
use Rattle.tl_bank_spec.specs.Channels.{next_ticket}
use Rattle.tl_bank_spec.specs.Own.{way_at}
use Rattle.tl_bank_spec.specs.Ways.{IsWayFor, victim_of_way, way_in_set}
use Rattle.tl_bank_spec.specs.declared.action.Action.{Action}
use Rattle.tl_bank_spec.specs.declared.action.Action.TheVariants.{Probe as did_Probe, Grant as did_Grant, Get as did_Get, Put as did_Put, Drop as did_Drop}

-- One event at the log's end, and at most one from the room; these registers are open and the blocks lie in these ways;
-- nothing else changed.
pub record AppendsWith (old new : View) (event : Event) (open_then : List Register) (lies_then : ℕ → Option ℕ) : Type 0 where
  pub is :
      new ≡ record old { log = old.log ++ event ∷ []; room = new.room; registers = open_then; ways = new.ways }
  pub room : old.room ≤ new.room + 1
  pub ways : (block : ℕ) → way_at new block ≡ lies_then block

-- ## accept

-- A register is open for the Acquire of a ticket, the first message that waits on A, with the way that the rules say.
pub record Accepts (old new : View) (ticket : Ticket) (block set : ℕ) : Type 0 where
  pub grow : Grow
  pub rest : List Message
  pub first : waiting_at old ticket A ≡ (record { block = block; body = AcquireBlock grow }) ∷ rest
  pub way : ℕ
  pub is_way : IsWayFor old set (way_at old block) way
  pub serves :
      AppendsWith old new (AcceptAcquire ticket.client block)
      (old.registers ++ opened block (way_in_set set way)
      (acquire_task (record { client = ticket.client; grow = grow })
      (victim_of_way old set (way_at old block) way)) ∷ []) (way_at old)

-- ## evict

-- A register is open that sends the block away, with its way.
pub record Evicts (old new : View) (block : ℕ) : Type 0 where
  pub way : ℕ
  pub lies : way_at old block ≡ Some way
  pub is :
      new ≡ record old {
        registers = old.registers ++ opened block (way_in_set (set_of old.geometry block) way) Evict ∷ [];
      }

-- ## advance

-- what an action answers
abbrev pub action_of : View → Due → Action
action_of v (due_Probe client block cap) = did_Probe (next_ticket v client B)
action_of v (due_Grant client) = did_Grant (next_ticket v client D)
action_of v due_Get = did_Get
action_of v (due_Put block) = did_Put block
action_of v (due_Drop block) = did_Drop

-- the registers after an action of the register of `own`: a Probe is noted, a drop ends the victim
abbrev pub registers_after : ℕ → Due → List Register → List Register
registers_after own (due_Probe client block cap) registers = noted own client registers
registers_after own (due_Drop block) registers = ended block registers
registers_after own due registers = registers

-- one block lies in no way any more
abbrev pub ways_without : ℕ → (ℕ → Option ℕ) → ℕ → Option ℕ
ways_without gone ways block = if block == gone then None else ways block

-- the ways after an action: a block that is put or dropped has left its way
abbrev pub ways_after : Due → (ℕ → Option ℕ) → ℕ → Option ℕ
ways_after (due_Put block) ways = ways_without block ways
ways_after (due_Drop block) ways = ways_without block ways
ways_after due ways = ways

-- The register of `own` did what it had to do next.
pub record Advances (old new : View) (own : ℕ) (action : Action) : Type 0 where
  pub due : Due
  pub is_due : due_at old own ≡ Some due
  pub serves :
      AppendsWith old new (event_of own due) (registers_after own due old.registers) (ways_after due (way_at old))
  pub answer : action ≡ action_of old due

-- ## take_c

-- a Release is answered with a ReleaseAck
abbrev pub answer_to : View → Ticket → Option Ticket
answer_to v ticket = if begins is_a_release (waiting_at v ticket C) then Some (next_ticket v ticket.client D) else None

-- ## The memory

-- what the memory answers to what passes of a block: to a Get the block's bytes, to a Put that they are written
abbrev pub AnswersRequest : Block → ℕ → Reply → Type 0
AnswersRequest block size reply =
    ((block.outward ≡ Get) × (reply ≡ AccessAckData size block.memory))
    ⊎ ((bytes : List ℕ) × (block.outward ≡ Put bytes) × (reply ≡ AccessAck size))

-- The memory's reply to the request of a block. Its size is the base-2 logarithm of the block's bytes.
pub record MemoryReplies (v : View) (block : ℕ) (reply : Reply) : Type 0 where
  pub size : ℕ
  pub is_size : 2 ^ size ≡ v.geometry.block_bytes
  pub answers : AnswersRequest (end_at v block) size reply

-- Home takes the bytes that it asked for: the block lies in the way that its register holds.
pub record TakesData (old new : View) (block : ℕ) : Type 0 where
  pub came : IsData (end_at old block).outward
  pub register : Register
  pub is_register : register_of block old.registers ≡ Some register
  pub serves :
      AppendsWith old new (TakeData block) old.registers (λ b. if b == block then Some register.way.way else way_at old b)

-- Home takes the acknowledgement of a Put: the block is no register's victim any more.
pub record TakesPutAck (old new : View) (block : ℕ) : Type 0 where
  pub came : (end_at old block).outward ≡ PutAck
  pub serves : AppendsWith old new (TakePutAck block) (ended block old.registers) (way_at old)

-- home takes what the memory answered: bytes, or the acknowledgement of a Put
abbrev pub TakesMemory : View → View → ℕ → Type 0
TakesMemory old new block = TakesData old new block ⊎ TakesPutAck old new block
