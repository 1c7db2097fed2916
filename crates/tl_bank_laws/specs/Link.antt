-- When a link takes a message, and gives one. No public clause cites this module.
use Rattle.std.specs.Prelude.{◌≡◌, ◌≢◌, ℕ, ◌-◌, ◌^◌, ◌<◌, [], length}
use Rattle.tl_types.specs.Lane.{sent}
use Rattle.tl_types.specs.declared.channel.Channel.{Channel}
use Rattle.tl_types.specs.declared.ticket.Ticket.{Ticket}
use Rattle.tl_links.specs.Table.{LinkTable, lane_in}
use Rattle.tl_types.specs.declared.limits.TheConstants.{MESSAGES}

-- a channel of a client that is there has a place for one more message
pub record HasRoom (links : LinkTable) (c : ℕ) (channel : Channel) : Type 0 where
  pub client : c < links.clients
  pub place : length (lane_in links c channel).messages < MESSAGES
  pub counted : sent (lane_in links c channel) < 2 ^ 64 - 1

-- a ticket names the first message that waits on its channel
pub record IsHead (links : LinkTable) (ticket : Ticket) : Type 0 where
  pub bank : ticket.bank ≡ links.bank
  pub client : ticket.client < links.clients
  pub waits : (lane_in links ticket.client ticket.channel).messages ≢ []
  pub serial : ticket.serial ≡ (lane_in links ticket.client ticket.channel).taken
