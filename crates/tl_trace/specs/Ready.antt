-- When a bank can show what an answer needs. No public clause cites this module.
use Rattle.std.specs.Prelude.{◌≡◌, ℕ, ◌<◌, List, IsSome}
use Rattle.tl_types.specs.declared.ticket.Ticket.{Ticket}
use Rattle.tl_protocol.specs.declared.home.Outward.TheVariants.{Put}
use Rattle.tl_bank_spec.specs.View.{View, end_at}
use Rattle.tl_bank_spec.specs.Own.{IsOwn}
use Rattle.tl_bank_spec.specs.Views.{in_flight_at}
use Rattle.tl_bank_spec.specs.declared.action.Action.{Action}
use Rattle.tl_bank_spec.specs.declared.action.Action.TheVariants.{Probe as did_Probe, Grant as did_Grant, Get as did_Get, Put as did_Put, Drop as did_Drop}

-- a ticket names a message that waits
abbrev pub IsThere : View → Ticket → Type 0
IsThere v ticket = IsSome (in_flight_at v ticket)

-- a PutFullData of a block of the bank is on its way to the memory
pub record IsWritten (v : View) (block : ℕ) : Type 0 where
  pub own : IsOwn v.geometry v.number block
  pub bytes : List ℕ
  pub put : (end_at v block).outward ≡ Put bytes

-- what an action sent is there
abbrev pub IsDone : View → ℕ → Action → Type 0
IsDone v own (did_Probe ticket) = IsThere v ticket
IsDone v own (did_Grant ticket) = IsThere v ticket
IsDone v own did_Get = own < v.geometry.memory_blocks
IsDone v own (did_Put block) = IsWritten v block
IsDone v own did_Drop = Unit {0}
