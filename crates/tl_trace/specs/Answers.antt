-- What a step's answer says of a bank (this project's own).
use Rattle.std.specs.Prelude.{◌≡◌, ℕ, ◌*◌, List, Option, Some, None}
use Rattle.tl_types.specs.declared.message.Message.{Message}
use Rattle.tl_types.specs.declared.ticket.Ticket.{Ticket}
use Rattle.tl_protocol.specs.declared.home.Outward.TheVariants.{Put}
use Rattle.tl_memory.specs.declared.request.Reply.{Reply}
use Rattle.tl_memory.specs.declared.request.Reply.TheVariants as reply
use Rattle.tl_bank_spec.specs.View.{View, end_at}
use Rattle.tl_bank_spec.specs.Views.{in_flight_at}
use Rattle.tl_bank_spec.specs.declared.action.Action.{Action}
use Rattle.tl_bank_spec.specs.declared.action.Action.TheVariants.{Probe as did_Probe, Grant as did_Grant, Get as did_Get, Put as did_Put, Drop as did_Drop}
use Rattle.tl_bank_spec.specs.Refusal.{IsRefused}
use Rattle.tl_bank_spec.specs.declared.refusal.Refusal.{Refusal}
use Rattle.tl_bank_spec.specs.declared.refusal.Refusal.TheVariants.{Memory as r_Memory}
use Rattle.tl_text.specs.Memory.{bytes_of_size}
use Rattle.tl_text.specs.declared.answer.Answer.{Answer}
use Rattle.tl_text.specs.declared.answer.Answer.TheVariants.{Sent, Memory, Dropped, Done, Refused}
use Rattle.tl_text.specs.declared.memory.BlockSize.{BlockSize}
use Rattle.tl_text.specs.declared.memory.MemoryMessage.{MemoryMessage}
use Rattle.tl_text.specs.declared.memory.MemoryMessage.TheVariants.{Get, PutFullData, AccessAckData, AccessAck}

-- ## Messages

-- The answer shows a ticket and the message that it names, with its block.
pub record Shows (v : View) (ticket : Ticket) (answer : Answer) : Type 0 where
  pub message : Message
  pub names : in_flight_at v ticket ≡ Some message
  pub says : answer ≡ Sent ticket message.block message.body

-- The answer shows a message between home and the memory, with the size of the bank's blocks.
pub record ShowsMemory (v : View) (message : MemoryMessage) (answer : Answer) : Type 0 where
  pub size : BlockSize
  pub is_size : bytes_of_size size ≡ v.geometry.block_bytes
  pub says : answer ≡ Memory size message

-- the address of a block's first byte
abbrev pub address_of : View → ℕ → ℕ
address_of v block = block * v.geometry.block_bytes

-- The answer shows a PutFullData of a block, with the bytes that are on their way to the memory.
pub record ShowsPut (v : View) (block : ℕ) (answer : Answer) : Type 0 where
  pub bytes : List ℕ
  pub outward : (end_at v block).outward ≡ Put bytes
  pub shows : ShowsMemory v (PutFullData (address_of v block) bytes) answer

-- what `advance` of a block did, where that left the bank so
abbrev pub ShowsAction : View → ℕ → Action → Answer → Type 0
ShowsAction v own (did_Probe ticket) answer = Shows v ticket answer
ShowsAction v own (did_Grant ticket) answer = Shows v ticket answer
ShowsAction v own did_Get answer = ShowsMemory v (Get (address_of v own)) answer
ShowsAction v own (did_Put block) answer = ShowsPut v block answer
ShowsAction v own did_Drop answer = answer ≡ Dropped

-- the answer to a Release where there is one
abbrev pub ShowsIfSent : View → Option Ticket → Answer → Type 0
ShowsIfSent v None answer = answer ≡ Done
ShowsIfSent v (Some ticket) answer = Shows v ticket answer

-- what the memory answered
abbrev pub message_in : Reply → MemoryMessage
message_in (reply.AccessAckData size bytes) = AccessAckData bytes
message_in (reply.AccessAck size) = AccessAck

-- ## Refusals

-- A step that a refusal stands against is answered with it, and `unchanged` holds; else `done` does.
abbrev pub Answers : Option Refusal → Type 0 → Type 0 → Answer → Type 0
Answers (Some refusal) unchanged done answer = unchanged × (answer ≡ Refused refusal)
Answers None unchanged done answer = done

-- There was no memory for a step: no other refusal stands against it, the bank's log had no room, and `unchanged` holds.
abbrev pub IsStarved : Option Refusal → ℕ → Type 0 → Type 0
IsStarved first room unchanged = unchanged × IsRefused first room r_Memory
