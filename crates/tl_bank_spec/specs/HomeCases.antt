-- The cases of refusals that only the calls of home and of the memory test (this project's own).
use Rattle.std.specs.Prelude.{ℕ, ◌||◌, ◌&&◌, Bool, true, false, Option, Some, is_none}
use Rattle.tl_types.specs.declared.channel.Channel.TheVariants.{B, C, D}
use Rattle.tl_types.specs.declared.ticket.Ticket.{Ticket}
use Rattle.tl_map.specs.Places.{set_of}
use Rattle.tl_protocol.specs.declared.home.Outward.{Outward}
use Rattle.tl_protocol.specs.declared.home.Outward.TheVariants.{Get, Data, Put, PutAck}
use Rattle.tl_registers.specs.declared.due.Due.{Due}
use Rattle.tl_registers.specs.declared.due.Due.TheVariants.{Probe as due_Probe, Grant as due_Grant}
use Rattle.tl_registers.specs.Registers.{due_of, is_busy, register_of}
use Rattle.tl_bank_spec.specs.Cases.{begins, is_a_release, link_full, waiting_at}
use Rattle.tl_bank_spec.specs.View.{View, end_at, shape_of}
use Rattle.tl_bank_spec.specs.Ways.{registers_full, ways_held}

-- the block is the own block or the victim of an open register
abbrev pub busy : View → ℕ → Bool
busy v block = is_busy block v.registers

-- home does not hold the block
abbrev pub lacks : View → ℕ → Bool
lacks v block = is_none (end_at v block).home

-- all registers are in use; or home lacks the block, and every way of its set is held
abbrev pub no_register : View → ℕ → Bool
no_register v block = registers_full v || (lacks v block && ways_held v (set_of v.geometry block))

-- what the register of a block does next: nothing where it waits, and where the block is no register's own
abbrev pub due_at : View → ℕ → Option Due
due_at v block = due_of (shape_of v.geometry) (end_at v) (register_of block v.registers)

-- `MESSAGES` messages are on the channel that an action sends on
abbrev pub due_full : View → Option Due → Bool
due_full v (Some (due_Probe client block cap)) = link_full v client B
due_full v (Some (due_Grant client)) = link_full v client D
due_full v due = false

-- a Release is taken, and `MESSAGES` messages are on the channel of its ReleaseAck
abbrev pub answer_full : View → Ticket → Bool
answer_full v ticket = begins is_a_release (waiting_at v ticket C) && link_full v ticket.client D

-- a request that the memory may answer
abbrev pub is_request : Outward → Bool
is_request Get = true
is_request (Put bytes) = true
is_request outward = false

-- an answer of the memory that home may take
abbrev pub is_reply : Outward → Bool
is_reply (Data bytes) = true
is_reply PutAck = true
is_reply outward = false
