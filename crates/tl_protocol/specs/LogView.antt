-- A log with the room that it has.
use Rattle.std.specs.Prelude.{ℕ, List}
use Rattle.tl_protocol.specs.declared.event.Event.{Event}

-- the events, oldest first, how many of the first are forgotten, and how many more need no memory
pub record LogView : Type 0 where
  pub events : List Event
  pub forgotten : ℕ
  pub room : ℕ
