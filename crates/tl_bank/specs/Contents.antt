-- What a bank shows of the clients' copies of a block, of home's copy and of the memory's bytes, of the messages that wait, of the miss
-- registers and of the ways (this project's own).
use Rattle.std.specs.Prelude.{ℕ, ◌+◌, ◌&&◌, List, Option, None, Some, slice_get, nat_lt, if◌then◌else◌}
use Rattle.std.specs.Option.{option_map}
use Rattle.tl_types.specs.declared.channel.Channel.{Channel}
use Rattle.tl_types.specs.declared.message.Message.{Message}
use Rattle.tl_types.specs.declared.ticket.Ticket.{Ticket}
use Rattle.tl_types.specs.declared.wait.Awaited.{Awaited}
use Rattle.tl_protocol.specs.declared.copy.CachedCopy.{CachedCopy}
use Rattle.tl_protocol.specs.declared.home.Line.{Line}
use Rattle.tl_registers.specs.declared.due.Due.{Due}
use Rattle.tl_bank_spec.specs.Cases.{no_client}
use Rattle.tl_bank_spec.specs.Channels.{lane_at}
use Rattle.tl_bank_spec.specs.View.{View, end_at, client_at}
use Rattle.tl_bank_spec.specs.HomeCases.{due_at}
use Rattle.tl_bank_spec.specs.Views.{no_part, not_own}
use Rattle.tl_bank_spec.specs.Ways.{slot_at}

-- a client's copy of a block: its permission, its bytes, and whether they are dirty; None of a client or a block that the bank does
-- not have
abbrev pub copy_at : View → ℕ → ℕ → Option CachedCopy
copy_at v client block = if no_part v client block then None else Some (client_at v client block).held

-- the answer that a client waits for about a block, of such a client and block
abbrev pub wait_at : View → ℕ → ℕ → Option Awaited
wait_at v client block = if no_part v client block then None else Some (client_at v client block).wait

-- home's copy of a block, where home has one; None also of a block that is not there or of another bank
abbrev pub line_at : View → ℕ → Option Line
line_at v block = if not_own v block then None else (end_at v block).home

-- the memory's bytes of a block; None of a block that is not there or of another bank
abbrev pub memory_at : View → ℕ → Option (List ℕ)
memory_at v block = if not_own v block then None else Some (end_at v block).memory

-- the ticket of the message at a place among those that wait on a channel, from 0
abbrev pub waiting_ticket : View → ℕ → Channel → ℕ → Ticket
waiting_ticket v client channel place =
    record { bank = v.number; client = client; channel = channel; serial = (lane_at v client channel).taken + place }

-- that message with its ticket; None past the last, and of a client that is not there
abbrev pub message_waiting : View → ℕ → Channel → ℕ → Option (Ticket × Message)
message_waiting v client channel place =
    if no_client v client then None
    else option_map (λ message. (waiting_ticket v client channel place, message)) (slice_get (lane_at v client channel).messages place)

-- what the miss register of a block does next; None where it waits, of a block that is no register's own, and of one that is not there
-- or of another bank
abbrev pub next_at : View → ℕ → Option Due
next_at v block = if not_own v block then None else due_at v block

-- the block in a way of a set, where there is one; None also of a set or way that is not there
abbrev pub slot_shown : View → ℕ → ℕ → Option ℕ
slot_shown v set way = if nat_lt set v.geometry.sets && nat_lt way v.geometry.ways then slot_at v set way else None
