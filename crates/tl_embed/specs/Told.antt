-- What an answer in plain numbers says.
use Rattle.std.specs.Prelude.{ℕ, ◌-◌, ◌*◌, List, [], ◌++◌, drop, length, replicate, slice_get, Option, Some, None}
use Rattle.tl_types.specs.declared.limits.TheConstants.{BLOCK_BYTES}
use Rattle.tl_types.specs.Channel.{channel_index}
use Rattle.tl_types.specs.Codes.{code_of}
use Rattle.tl_types.specs.Bodies.{body_bytes, body_kind}
use Rattle.tl_types.specs.declared.kind.Kind.{Kind}
use Rattle.tl_types.specs.declared.message.Body.{Body}
use Rattle.tl_types.specs.declared.message.Message.{Message}
use Rattle.tl_types.specs.declared.ticket.Ticket.{Ticket}
use Rattle.tl_protocol.specs.Protocol.{block_of}
use Rattle.tl_protocol.specs.declared.event.Event.{Event}
use Rattle.tl_protocol.specs.declared.home.Outward.{Outward}
use Rattle.tl_protocol.specs.declared.home.Outward.TheVariants as outward
use Rattle.tl_bank_spec.specs.Refusal.{refusal_number}
use Rattle.tl_bank_spec.specs.View.{View, shape_of}
use Rattle.tl_bank_spec.specs.Views.{in_flight_at}
use Rattle.tl_protocol.specs.declared.shape.Shape.{Shape}
use Rattle.tl_script_words.specs.declared.step.Step.{Step}
use Rattle.tl_trace.specs.NetworkState.{NetworkState, bank_asked, bank_at}
use Rattle.tl_text.specs.Memory.{log_of_size, memory_kind}
use Rattle.tl_text.specs.declared.answer.Answer.{Answer as Shown}
use Rattle.tl_text.specs.declared.answer.Answer.TheVariants.{Sent, Memory, Dropped, Loaded, Done, Refused}
use Rattle.tl_text.specs.declared.memory.BlockSize.{BlockSize}
use Rattle.tl_text.specs.declared.memory.MemoryMessage.{MemoryMessage}
use Rattle.tl_text.specs.declared.memory.MemoryMessage.TheVariants as memory
use Rattle.tl_embed.specs.declared.answer.Accessed.{Accessed}
use Rattle.tl_embed.specs.declared.answer.Answer.{Answer}
use Rattle.tl_embed.specs.declared.answer.Number.{Number}
use Rattle.tl_embed.specs.declared.request.Request.{Request}
use Rattle.tl_embed.specs.declared.seen.Seen.{Seen}

-- nothing is told but a status
abbrev pub only : ℕ → Answer
only status = record {
  status = status;
  what = 0;
  bank = 0;
  client = 0;
  channel = 0;
  opcode = 0;
  param = 0;
  place = 0;
  address = 0;
  size = 0;
  index = 0;
  len = 0;
  stores = 0;
  reserved = 0;
  serial = 0;
  bytes = replicate BLOCK_BYTES 0;
}

-- the same answer with these bytes, at most `BLOCK_BYTES`, and 0 past them
abbrev pub with_bytes : List ℕ → Answer → Answer
with_bytes bytes told = record told { len = length bytes; bytes = bytes ++ replicate (BLOCK_BYTES - length bytes) 0 }

-- a request again: each of its fields in one of an answer
abbrev pub echoed : Request → Answer
echoed r =
    with_bytes r.bytes
    (record (only 0) {
      what = r.call;
      index = r.index;
      client = r.client;
      place = r.place;
      param = r.param;
      bank = r.bank;
      channel = r.channel;
      opcode = r.len;
      address = 1;
      size = 2;
      stores = 3;
      serial = r.serial;
    })

-- a message that was seen again, likewise
abbrev pub seen_echoed : Seen → Answer
seen_echoed s =
    with_bytes s.bytes
    (record (only 0) {
      what = s.options;
      channel = s.channel;
      opcode = s.opcode;
      param = s.param;
      client = s.client;
      place = s.block;
      size = s.len;
      index = s.index;
    })

-- ## A number

-- a number is told
abbrev pub number_told : ℕ → Answer
number_told n = record (only 0) { what = 5; serial = n }

-- what a view of a number tells, as an answer
abbrev pub number_wide : Number → Answer
number_wide n = record (only n.status) { what = n.what; serial = n.serial }

-- ## Accesses

-- what a load or a store tells, as an answer
abbrev pub wide : Accessed → Answer
wide a = record (only a.status) { what = a.what; serial = a.serial; len = a.len; bytes = a.bytes ++ replicate 56 0 }

-- the bytes of a load
abbrev pub loaded_told : List ℕ → Answer
loaded_told bytes = with_bytes bytes (record (only 0) { what = 4 })

-- ## Messages

-- the bytes, if there are some
abbrev pub bytes_or_none : Option (List ℕ) → List ℕ
bytes_or_none None = []
bytes_or_none (Some bytes) = bytes

-- the codes of a kind are told as well
abbrev pub coded : Kind → Answer → Answer
coded kind told = record told { opcode = (code_of kind).0; param = (code_of kind).1 }

-- a message of a client's link: its ticket, block, codes and bytes
abbrev pub message_told : Ticket → Body → ℕ → Answer
message_told ticket body block =
    with_bytes (bytes_or_none (body_bytes body))
    (coded (body_kind body)
    (record (only 0) {
      what = 1;
      bank = ticket.bank;
      client = ticket.client;
      channel = channel_index ticket.channel;
      place = block;
      serial = ticket.serial;
    }))

-- the message that a ticket names, where it waits, and None where there is no such bank
abbrev pub message_in : Option View → Ticket → Option Message
message_in None ticket = None
message_in (Some v) ticket = in_flight_at v ticket

-- the same, at all banks
abbrev pub message_of : NetworkState → Ticket → Option Message
message_of network ticket = message_in (bank_at network ticket.bank) ticket

-- ## The memory

-- the bytes that a message of the memory carries, if any
abbrev pub memory_bytes : MemoryMessage → List ℕ
memory_bytes (memory.Get address) = []
memory_bytes (memory.PutFullData address bytes) = bytes
memory_bytes (memory.AccessAckData bytes) = bytes
memory_bytes memory.AccessAck = []

-- the channel of the memory's link that it travels on, past those of a client's: A of requests, D of answers
abbrev pub memory_channel : MemoryMessage → ℕ
memory_channel (memory.Get address) = 5
memory_channel (memory.PutFullData address bytes) = 5
memory_channel (memory.AccessAckData bytes) = 6
memory_channel memory.AccessAck = 6

-- a message between home and the memory: its channel, codes, size and bytes
abbrev pub memory_told : BlockSize → MemoryMessage → Answer
memory_told size message =
    with_bytes (memory_bytes message)
    (coded (memory_kind message) (record (only 0) { what = 2; channel = memory_channel message; size = log_of_size size }))

-- how far an exchange with the memory is
abbrev pub passing : ℕ → Answer
passing n = record (only 0) { what = 7; serial = n }

-- what passes of a block between home and the memory: 0 nothing, 1 Get, 2 its bytes, 3 Put with its bytes, 4 its acknowledgement
abbrev pub outward_told : Option Outward → Answer
outward_told None = passing 0
outward_told (Some outward.Quiet) = passing 0
outward_told (Some outward.Get) = passing 1
outward_told (Some (outward.Data bytes)) = with_bytes bytes (passing 2)
outward_told (Some (outward.Put bytes)) = with_bytes bytes (passing 3)
outward_told (Some outward.PutAck) = passing 4

-- ## A step

-- the block that an event is of, 0 where there is none
abbrev pub block_or_none : Shape → Option Event → ℕ
block_or_none shape None = 0
block_or_none shape (Some event) = block_of shape event

-- the events of a bank's log that are not forgotten
abbrev pub kept_events : View → List Event
kept_events v = drop v.forgotten v.log

-- the block of the last of them
abbrev pub last_block : View → ℕ
last_block v = block_or_none (shape_of v.geometry) (slice_get (kept_events v) (length (kept_events v) - 1))

-- the bank and the block of the last event of a bank's log, with the block's first address, are told as well
abbrev pub placed_in : Option View → Answer → Answer
placed_in None told = told
placed_in (Some v) told =
    record told { bank = v.number; place = last_block v; address = last_block v * v.geometry.block_bytes }

-- the same of the bank that a step names: it logged its event there
abbrev pub placed : NetworkState → Step → Answer → Answer
placed network step told = placed_in (bank_at network (bank_asked network.geometry step)) told

-- what a step answered, where it left the banks so
abbrev pub step_told : NetworkState → Step → Shown → Answer
step_told network step (Sent ticket block body) = message_told ticket body block
step_told network step (Memory size message) = placed network step (memory_told size message)
step_told network step Dropped = placed network step (record (only 0) { what = 3 })
step_told network step (Loaded bytes) = loaded_told bytes
step_told network step Done = only 0
step_told network step (Refused refusal) = only (refusal_number refusal)
