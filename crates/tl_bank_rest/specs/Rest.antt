-- A bank comes to rest: what is received, and how much at most (this project's own).
use Rattle.std.specs.Prelude.{◌≡◌, ℕ, ◌+◌, ◌<◌, ◌≤◌, true, List, ◌++◌, length}
use Rattle.std.specs.List.{All}
use Rattle.tl_protocol.specs.declared.event.Event.{Event}
use Rattle.tl_protocol.specs.Work.{is_receiving, work_of_all}
use Rattle.tl_bank_spec.specs.Effects.{AppendsWith}
use Rattle.tl_bank_spec.specs.Own.{way_at}
use Rattle.tl_bank_spec.specs.View.{View, end_at, shape_of}

-- how many events come at most of what is under way in a bank, before a client starts something
abbrev pub work_at : View → ℕ
work_at v = work_of_all (shape_of v.geometry) (end_at v)

-- One event more, by which something is received, so that less is under way.
pub record ReceivesOne (old new : View) : Type 0 where
  pub event : Event
  pub serves : AppendsWith old new event new.registers (way_at new)
  pub receiving : is_receiving event ≡ true
  pub less : work_at new < work_at old

-- These events more in the log; nothing else changed but the room, the registers and the ways. By each event something was received,
-- and they are no more than what was under way could bring, without what is under way still.
pub record Receives (old new : View) (events : List Event) : Type 0 where
  pub is :
      new ≡ record old { log = old.log ++ events; room = new.room; registers = new.registers; ways = new.ways }
  pub room : old.room ≤ new.room + length events
  pub each : All (λ e. is_receiving e ≡ true) events
  pub few : length events + work_at new ≤ work_at old
