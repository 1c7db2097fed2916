-- The messages of one channel of a record, by their numbers (this project's own).
use Rattle.std.specs.Prelude.{ℕ, List}
use Rattle.tlcheck_chart.specs.declared.serials.Sent.{Sent}

-- how many messages were sent on a channel, and those that wait, oldest first
pub record LaneState : Type 0 where
  pub count : ℕ
  pub waiting : List Sent
