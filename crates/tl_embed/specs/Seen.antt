-- What a message that was seen asks of the banks (this project's own; codes by TileLink 1.8, section 6).
use Rattle.std.specs.Prelude.{ℕ, ◌==◌, ◌||◌, Bool, List, take, min, nat_lt, Option, Some, None, Result, Ok, Err, if◌then◌else◌}
use Rattle.std.specs.List.{list_any}
use Rattle.std.specs.Option.{option_map}
use Rattle.tl_types.specs.declared.limits.TheConstants.{BLOCK_BYTES, MESSAGES}
use Rattle.tl_types.specs.Bodies.{has_data}
use Rattle.tl_types.specs.Decoding.{grow_at, kind_on_c, kind_on_e}
use Rattle.tl_types.specs.Parameters.{dirty_prune}
use Rattle.tl_types.specs.declared.channel.Channel.{Channel}
use Rattle.tl_types.specs.declared.channel.Channel.TheVariants.{B, D}
use Rattle.tl_types.specs.declared.kind.Kind.{Kind}
use Rattle.tl_types.specs.declared.kind.Kind.TheVariants as kind
use Rattle.tl_types.specs.declared.message.Message.{Message}
use Rattle.tl_types.specs.declared.ticket.Ticket.{Ticket}
use Rattle.tl_bank.specs.Contents.{message_waiting}
use Rattle.tl_bank_spec.specs.Channels.{lane_at}
use Rattle.tl_bank_spec.specs.View.{View}
use Rattle.tl_script_words.specs.declared.step.Step.TheVariants as step
use Rattle.tl_script_words.specs.declared.step.TicketCall.TheVariants.{TakeGrant}
use Rattle.tl_trace.specs.NetworkState.{NetworkState}
use Rattle.tl_embed.specs.Views.{bank_for}
use Rattle.tl_embed.specs.declared.seen.Seen.{Seen}
use Rattle.tl_embed.specs.declared.seen.SeenAsks.{SeenAsks}
use Rattle.tl_embed.specs.declared.seen.SeenAsks.TheVariants.{Tells, Plays, Sends}
use Rattle.tl_embed.specs.declared.seen.OnC.TheVariants.{Release, Answer}

-- ## The message

-- the channels on which a client sends: A, C and E
abbrev pub is_of_client : ℕ → Bool
is_of_client channel = (channel == 0) || (channel == 2) || (channel == 4)

-- the kind of message that a client sends on a channel with an opcode and a param, if this profile has one (TileLink 1.8, section 6)
abbrev pub kind_seen : Seen → Option Kind
kind_seen s =
    if s.channel == 2 then kind_on_c s.opcode s.param
    else if s.channel == 4 then kind_on_e s.opcode s.param
    else if s.opcode == 6 then option_map kind.AcquireBlock (grow_at s.param)
    else None

-- the bytes that it came with, `BLOCK_BYTES` at most
abbrev pub bytes_seen : Seen → List ℕ
bytes_seen s = take (min s.len BLOCK_BYTES) s.bytes

-- ## The message that it answers

-- whether a message of the block is among those that wait on a channel, which are `MESSAGES` at most
abbrev pub waits_there : View → Seen → Channel → Bool
waits_there v s channel = list_any (λ (m : Message). m.block == s.block) (take MESSAGES (lane_at v s.client channel).messages)

-- the first message of a channel, where that is of the block; 4 where none of it waits there, 5 where one waits behind another
abbrev pub first_or_not : View → Seen → Channel → Option (Ticket × Message) → Result Ticket ℕ
first_or_not v s channel None = Err 4
first_or_not v s channel (Some first) =
    if first.1.block == s.block then Ok first.0 else if waits_there v s channel then Err 5 else Err 4

-- the same; 10 where there is no such client or block
abbrev pub first_in : Option View → Seen → Channel → Result Ticket ℕ
first_in None s channel = Err 10
first_in (Some v) s channel = first_or_not v s channel (message_waiting v s.client channel 0)

-- the ticket of the first message on a channel of the client at the bank of the block, if that is of the block
abbrev pub first_of_block : NetworkState → Seen → Channel → Result Ticket ℕ
first_of_block network s channel = first_in (bank_for network s.client s.block) s channel

-- ## What is asked

-- the answer to the first Probe
abbrev pub answers_probe : Kind → Result Ticket ℕ → SeenAsks
answers_probe seen (Err status) = Tells status
answers_probe seen (Ok ticket) = Sends (Answer ticket) seen

-- the taking of the first Grant, whose GrantAck was seen
abbrev pub takes_grant : Result Ticket ℕ → SeenAsks
takes_grant (Err status) = Tells status
takes_grant (Ok ticket) = Plays (step.Ticket TakeGrant ticket)

-- the client's call that sends a message of a kind
abbrev pub kind_asks : Kind → NetworkState → Seen → SeenAsks
kind_asks kind.PutFullData network s = Tells 30
kind_asks kind.Get network s = Tells 30
kind_asks (kind.AcquireBlock grow) network s = Plays (step.Acquire s.client s.block grow)
kind_asks (kind.ProbeBlock cap) network s = Tells 30
kind_asks (kind.ProbeAck report) network s = answers_probe (kind.ProbeAck report) (first_of_block network s B)
kind_asks (kind.ProbeAckData prune) network s = answers_probe (kind.ProbeAckData prune) (first_of_block network s B)
kind_asks (kind.Release prune) network s = Sends (Release prune) (kind.Release prune)
kind_asks (kind.ReleaseData prune) network s = Sends (Release (dirty_prune prune)) (kind.ReleaseData prune)
kind_asks kind.AccessAck network s = Tells 30
kind_asks kind.AccessAckData network s = Tells 30
kind_asks (kind.Grant cap) network s = Tells 30
kind_asks (kind.GrantData cap) network s = Tells 30
kind_asks kind.ReleaseAck network s = Tells 30
kind_asks kind.GrantAck network s = takes_grant (first_of_block network s D)

-- the same where it came with the bytes that its kind carries, else 17; 30 where this profile has no such message
abbrev pub message_asks : Option Kind → NetworkState → Seen → SeenAsks
message_asks None network s = Tells 30
message_asks (Some seen) network s =
    if s.len == (if has_data seen then network.geometry.block_bytes else 0) then kind_asks seen network s else Tells 17

-- what a message that was seen asks; 17 of another channel, or an option that there is not
abbrev pub seen_asks : NetworkState → Seen → SeenAsks
seen_asks network s =
    if is_of_client s.channel then (if nat_lt 1 s.options then Tells 17 else message_asks (kind_seen s) network s) else Tells 17
