-- The first message of a channel, with its ticket (this project's own).
use Rattle.std.specs.Prelude.{◌≡◌, ℕ, ◌<◌, List, [], ◌∷◌}
use Rattle.tl_types.specs.declared.channel.Channel.{Channel}
use Rattle.tl_types.specs.declared.channel.Channel.TheVariants.{B, C, D, E}
use Rattle.tl_types.specs.declared.message.Message.{Message}
use Rattle.tl_types.specs.declared.ticket.Ticket.{Ticket}
use Rattle.tl_bank_spec.specs.Channels.{lane_at}
use Rattle.tl_bank_spec.specs.View.{View}

-- A message is the first that waits on a channel of some client, and the ticket is its own.
pub record IsHead (v : View) (channel : Channel) (ticket : Ticket) (message : Message) : Type 0 where
  pub bank : ticket.bank ≡ v.number
  pub client : ticket.client < v.geometry.clients
  pub on : ticket.channel ≡ channel
  pub serial : ticket.serial ≡ (lane_at v ticket.client channel).taken
  pub rest : List Message
  pub first : (lane_at v ticket.client channel).messages ≡ message ∷ rest

-- no message waits on a channel of any client
abbrev pub IsEmpty : View → Channel → Type 0
IsEmpty v channel = (client : ℕ) → client < v.geometry.clients → (lane_at v client channel).messages ≡ []

-- no message waits on a channel of any client, but on A
pub record AllTaken (v : View) : Type 0 where
  pub b : IsEmpty v B
  pub c : IsEmpty v C
  pub d : IsEmpty v D
  pub e : IsEmpty v E
