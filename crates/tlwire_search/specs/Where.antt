-- Of which block something seen is, and of which wire an event takes something (this project's own; the channels are those of TileLink
-- 1.8, section 3).
use Rattle.std.specs.Prelude.{ℕ, ◌/◌, Option, Some, None}
use Rattle.tl_types.specs.declared.channel.Channel.TheVariants.{A, B, C, D, E}
use Rattle.tl_protocol.specs.declared.event.Event.{Event}
use Rattle.tl_protocol.specs.declared.event.Event.TheVariants.{AnswerProbe, TakeGrant, TakeReleaseAck, AcceptAcquire, TakeC, TakeGrantAck, Serve, TakeData, TakePutAck}
use Rattle.tlwire_search.specs.declared.seen.Seen.{Seen}
use Rattle.tlwire_search.specs.declared.seen.Seen.TheVariants.{OnLink, OnMemory, Load, Store}
use Rattle.tlwire_search.specs.declared.seen.Wire.{Wire}
use Rattle.tlwire_search.specs.declared.seen.Wire.TheVariants.{Link, Memory}

-- the block that something seen is of, where a block has so many bytes
abbrev pub block_of : ℕ → Seen → ℕ
block_of bytes (OnLink client block message) = block
block_of bytes (OnMemory block message) = block
block_of bytes (Load client address read) = address / bytes
block_of bytes (Store client address written) = address / bytes

-- the wire of which an event takes the first message
abbrev pub wire_taken : Event → Option Wire
wire_taken (AcceptAcquire c block) = Some (Link c A)
wire_taken (AnswerProbe c block) = Some (Link c B)
wire_taken (TakeC c block) = Some (Link c C)
wire_taken (TakeGrant c block) = Some (Link c D)
wire_taken (TakeReleaseAck c block) = Some (Link c D)
wire_taken (TakeGrantAck c block) = Some (Link c E)
wire_taken (Serve block) = Some (Memory A)
wire_taken (TakeData block) = Some (Memory D)
wire_taken (TakePutAck block) = Some (Memory D)
wire_taken e = None
