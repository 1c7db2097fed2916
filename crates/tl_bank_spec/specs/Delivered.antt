-- What becomes of the message that an event sends, and of the one that it takes (this project's own).
use Rattle.std.specs.Prelude.{◌≡◌, Bool, true, List, ◌∷◌, ◌++◌, Some, None}
use Rattle.tl_types.specs.Lane.{without_first}
use Rattle.tl_types.specs.declared.channel.Channel.{Channel}
use Rattle.tl_types.specs.declared.message.Body.{Body}
use Rattle.tl_types.specs.declared.message.Message.{Message}
use Rattle.tl_types.specs.declared.ticket.Ticket.{Ticket}
use Rattle.tl_protocol.specs.Protocol.{block_of}
use Rattle.tl_protocol.specs.declared.event.Event.{Event}
use Rattle.tl_protocol_lanes.specs.Lanes.{LinkChannel, Post, post_of, take_of}
use Rattle.tl_protocol_lanes.specs.Lawful.{Lawful}
use Rattle.tl_bank_spec.specs.Calls.{ticket_cases, shared_ticket_cases}
use Rattle.tl_bank_spec.specs.Forbidden.{MayAt}
use Rattle.tl_bank_spec.specs.Refusal.{Case, first_of}
use Rattle.tl_bank_spec.specs.Share.{ShareView}
use Rattle.tl_bank_spec.specs.View.{View, end_at, shape_of}
use Rattle.tl_bank_spec.specs.Steps.{Extends}
use Rattle.tl_bank_spec.specs.Channels.{lane_at, next_ticket}
use Rattle.tl_bank_spec.specs.Views.{in_flight_at}

-- The message that an event sends, of its own block, waits then under this ticket.
pub record Sends (old new : View) (event : Event) (ticket : Ticket) : Type 0 where
  pub post : Post
  pub sent : post_of (shape_of old.geometry) (end_at old (block_of (shape_of old.geometry) event)) event ≡ Some post
  pub named : ticket ≡ next_ticket old post.client post.channel
  pub waits : in_flight_at new ticket ≡ Some (record { block = block_of (shape_of old.geometry) event; body = post.body })

-- An event takes the first message of a channel, which is of its own block, and the channel loses just that.
pub record Takes (old new : View) (event : Event) (place : LinkChannel) : Type 0 where
  pub message : Message
  pub rest : List Message
  pub first : (lane_at old place.client place.channel).messages ≡ message ∷ rest
  pub block : message.block ≡ block_of (shape_of old.geometry) event
  pub left : lane_at new place.client place.channel ≡ without_first (lane_at old place.client place.channel)

-- A ticket names the first message of a channel, which is of a kind.
pub record NamesFirst (v : View) (ticket : Ticket) (channel : Channel) (kind : Body → Bool) : Type 0 where
  pub on : ticket.channel ≡ channel
  pub message : Message
  pub rest : List Message
  pub first : (lane_at v ticket.client channel).messages ≡ message ∷ rest
  pub is_kind : kind message.body ≡ true
  pub named : in_flight_at v ticket ≡ Some message

-- What a permitted event sends waits under the next ticket of its channel.
abbrev pub EveryMessageSentWaits : Type 0
EveryMessageSentWaits =
    (old new : View) (e : Event) (post : Post) → MayAt old e → Extends old new e
    → post_of (shape_of old.geometry) (end_at old (block_of (shape_of old.geometry) e)) e ≡ Some post
    → Sends old new e (next_ticket old post.client post.channel)

-- What the last event of a lawful log took was the first message of its channel.
abbrev pub EveryMessageTakenIsFirst : Type 0
EveryMessageTakenIsFirst =
    (old new : View) (e : Event) (place : LinkChannel) → Lawful (shape_of new.geometry) new.image new.log → Extends old new e
    → take_of e ≡ Some place → Takes old new e place

-- So is the message that a call takes whose ticket is not refused: it is the one that its ticket names. The cases of each call with
-- a ticket begin with these.
abbrev pub EveryTicketNamesTheFirst : Type 0
EveryTicketNamesTheFirst =
    (v : View) (ticket : Ticket) (channel : Channel) (kind : Body → Bool) (more : List Case)
    → (first_of (ticket_cases v ticket channel kind ++ more) ≡ None → NamesFirst v ticket channel kind)
    × ((share : ShareView) → first_of (shared_ticket_cases v ticket share channel kind ++ more) ≡ None
    → NamesFirst v ticket channel kind)
