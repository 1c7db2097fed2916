-- Which passes and seats are those of a run's mailboxes and bells. No public clause cites this module.
use Rattle.std.specs.Prelude.{◌≡◌, ◌+◌, ℕ, vec_len}
use Rattle.std.specs.List.{All}
use Rattle.tl_map.specs.Numbers.{Numbers}
use Rattle.tl_tickets.specs.Bell.{IsSeatOf}
use Rattle.tl_runner_threads.specs.declared.mailbox.Mailbox.{Mailbox}
use Rattle.tl_runner_threads.specs.declared.mailroom.Mailroom.{Mailroom}
use Rattle.tl_runner_threads.specs.declared.mailroom.AllKeys.{AllKeys}
use Rattle.tl_runner_threads.specs.Keys.{FitEach}

-- These are the passes and seats of the mailboxes of the clients and homes of a geometry, and of their two bells: a seat at the done bell
-- for each, and one more at the stop bell, for the runner.
pub record Opens (geometry : Numbers) (mailroom : Mailroom) (keys : AllKeys) : Type 0 where
  pub clients : FitEach geometry.banks mailroom.clients.items keys.clients.items
  pub homes : FitEach geometry.clients mailroom.homes.items keys.homes.items
  pub each_client : vec_len keys.clients ≡ geometry.clients
  pub each_home : vec_len keys.homes ≡ geometry.banks
  pub done : All (IsSeatOf mailroom.done) keys.done.items
  pub stop : All (IsSeatOf mailroom.stop) keys.stop.items
  pub at_done : vec_len keys.done ≡ geometry.clients + geometry.banks
  pub at_stop : vec_len keys.stop ≡ geometry.clients + geometry.banks + 1

-- each inbox of a mailroom holds so many tickets
abbrev pub HoldsEach : ℕ → Mailroom → Type 0
HoldsEach capacity mailroom =
    All (λ (m : Mailbox). m.inbox.capacity ≡ capacity) mailroom.clients.items × All (λ (m : Mailbox). m.inbox.capacity ≡ capacity) mailroom.homes.items
