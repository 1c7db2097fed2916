-- What a home's turn asks of its bank (this project's own; each channel of a link keeps its order).
use Rattle.std.specs.Prelude.{◌≡◌, ℕ, List, [], ◌++◌}
use Rattle.std.specs.List.{filter}
use Rattle.tl_types.specs.Channel.{channel_index}
use Rattle.tl_types.specs.declared.channel.Channel.TheVariants.{A, C, E}
use Rattle.tl_types.specs.declared.ticket.Ticket.{Ticket}
use Rattle.tl_tickets.specs.Ends.{InboxEnd}
use Rattle.tl_client_mail.specs.Inbox.{Took}
use Rattle.tl_client_mail.specs.Rounds.{Round, all_of, is_on}
use Rattle.tl_client_mail.specs.declared.links.Links.TheVariants.{OfBank}
use Rattle.tl_client_ports.specs.declared.port.Asked.{Asked}
use Rattle.tl_client.specs.Rounds.{Goes}

-- the order in which a home serves tickets that it took: those on E, then C, then A
abbrev pub in_order : List Ticket → List Ticket
in_order tickets =
    filter (λ (t : Ticket). is_on (channel_index E) t) tickets
    ++ (filter (λ (t : Ticket). is_on (channel_index C) t) tickets ++ filter (λ (t : Ticket). is_on (channel_index A) t) tickets)

-- what contracts see of a home: its bank, and the tickets that wait
pub record Waits : Type 0 where
  pub bank : ℕ
  pub waiting : Round

-- the same home, and what it took of its inbox waits behind the rest, in order
abbrev pub Takes : ℕ → InboxEnd → Waits → InboxEnd → Waits → Type 0
Takes clients before old after new =
    (new.bank ≡ old.bank) × ((taken : List Ticket) × Took (OfBank old.bank clients) before [] after taken
    × (all_of new.waiting ≡ all_of old.waiting ++ in_order taken))

-- the same home, after a round over all tickets that waited
abbrev pub Serves : Waits → List Asked → Waits → List Asked → Type 0
Serves old before new after =
    (new.bank ≡ old.bank) × ((more : List Asked) × (after ≡ before ++ more) × Goes [] (all_of old.waiting) more (all_of new.waiting))

-- a turn: what was taken of the inbox joined those that wait, and a round went over all of them
abbrev pub Works : ℕ → InboxEnd → Waits → InboxEnd → Waits → List Asked → Type 0
Works clients before old after new all =
    (new.bank ≡ old.bank) × ((taken : List Ticket) × Took (OfBank old.bank clients) before [] after taken
    × Goes [] (all_of old.waiting ++ in_order taken) all (all_of new.waiting))
