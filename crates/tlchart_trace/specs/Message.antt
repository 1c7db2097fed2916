-- The message that a step of a trace sent (this project's own).
use Rattle.std.specs.Prelude.{ℕ, List, Option, Some, None}
use Rattle.tl_types.specs.declared.kind.Kind.{Kind}
use Rattle.tl_types.specs.declared.kind.Kind.TheVariants as kind
use Rattle.tl_map.specs.Numbers.{Numbers}
use Rattle.tl_map.specs.Places.{block_of_address}
use Rattle.tl_script_words.specs.declared.step.Step.{Step}
use Rattle.tl_script_words.specs.declared.step.Step.TheVariants as step
use Rattle.tl_text.specs.declared.answer.Answer.{Answer}
use Rattle.tl_text.specs.declared.answer.Answer.TheVariants.{Sent, Memory as of_memory}
use Rattle.tl_text.specs.declared.memory.MemoryMessage.{MemoryMessage}
use Rattle.tl_text.specs.declared.memory.MemoryMessage.TheVariants.{Get, PutFullData, AccessAckData, AccessAck}
use Rattle.tl_trace.specs.NetworkState.{bank_asked}
use Rattle.tlchart_model.specs.Message.{link_message}
use Rattle.tlchart_model.specs.declared.lifeline.Lifeline.TheVariants.{Home, Memory}
use Rattle.tlchart_model.specs.declared.lifeline.Place.TheVariants.{ToMemory, FromMemory}
use Rattle.tlchart_model.specs.declared.message.ShownMessage.{ShownMessage}

-- the block that a step names, and block 0 where it names none
abbrev pub block_named : Step → ℕ
block_named (step.Block call block) = block
block_named _ = 0

-- a message of the home that a step is asked of to the memory, about the block of an address
abbrev pub to_memory : Numbers → Step → ℕ → Kind → Option (List ℕ) → ShownMessage
to_memory g s address kind bytes = record {
  place = ToMemory (block_of_address g address);
  from = Home (bank_asked g s);
  to = Memory;
  block = block_of_address g address;
  kind = kind;
  bytes = bytes;
}

-- an answer of the memory to that home, about the block that the step names
abbrev pub from_memory : Numbers → Step → Kind → Option (List ℕ) → ShownMessage
from_memory g s kind bytes = record {
  place = FromMemory (block_named s);
  from = Memory;
  to = Home (bank_asked g s);
  block = block_named s;
  kind = kind;
  bytes = bytes;
}

-- a message between home and the memory
abbrev pub memory_message : Numbers → Step → MemoryMessage → ShownMessage
memory_message g s (Get address) = to_memory g s address kind.Get None
memory_message g s (PutFullData address bytes) = to_memory g s address kind.PutFullData (Some bytes)
memory_message g s (AccessAckData bytes) = from_memory g s kind.AccessAckData (Some bytes)
memory_message g s AccessAck = from_memory g s kind.AccessAck None

-- the message that a step sent, where its answer shows one
abbrev pub message_by : Numbers → Step → Answer → Option ShownMessage
message_by g s (Sent ticket block body) = Some (link_message ticket block body)
message_by g s (of_memory size message) = Some (memory_message g s message)
message_by g s _ = None
