-- What an agent's turn asks of the banks (this project's own; each channel of a link keeps its order).
use Rattle.std.specs.Prelude.{◌≡◌, ◌≢◌, ◌⊎◌, ℕ, Bool, true, false, List, [], ◌∷◌, ◌++◌}
use Rattle.std.specs.List.{filter}
use Rattle.std.specs.declared.result.Result.{Result}
use Rattle.tl_bank_spec.specs.declared.refusal.Refusal.{Refusal}
use Rattle.tl_types.specs.Channel.{channel_index}
use Rattle.tl_types.specs.declared.channel.Channel.TheVariants.{B, D}
use Rattle.tl_types.specs.declared.ticket.Ticket.{Ticket}
use Rattle.tl_tickets.specs.Ends.{InboxEnd}
use Rattle.tl_client_mail.specs.Inbox.{Took}
use Rattle.tl_client_mail.specs.Rounds.{Round, all_of, is_on}
use Rattle.tl_client_mail.specs.declared.links.Links.TheVariants.{OfClient}
use Rattle.tl_client_ports.specs.Ports.{Asks, asked}
use Rattle.tl_client_ports.specs.declared.port.Asked.{Asked}
use Rattle.tl_client.specs.Rounds.{Goes}

-- what contracts see of a client's links: the client, the number of banks, whether an answer of home is awaited, and the
-- tickets that wait: Grants and ReleaseAcks, and Probes
pub record ClientLinks : Type 0 where
  pub client : ℕ
  pub banks : ℕ
  pub awaits : Bool
  pub downward : Round
  pub probes : Round

-- a client's links on which no ticket waits and no answer is awaited, with room for so many of each
abbrev pub quiet_links : ℕ → ℕ → ℕ → ClientLinks
quiet_links client banks room = record {
  client = client;
  banks = banks;
  awaits = false;
  downward = record { kept = []; rest = []; room = room };
  probes = record { kept = []; rest = []; room = room };
}

-- the same links, but for whether an answer of home is awaited
abbrev pub IsSameLinks : ClientLinks → ClientLinks → Type 0
IsSameLinks old new = new ≡ record old { awaits = new.awaits }

-- of some tickets those on D, Grants and ReleaseAcks, in order
abbrev pub downward_in : List Ticket → List Ticket
downward_in tickets = filter (λ (t : Ticket). is_on (channel_index D) t) tickets

-- of some tickets those on B, Probes, in order
abbrev pub probes_in : List Ticket → List Ticket
probes_in tickets = filter (λ (t : Ticket). is_on (channel_index B) t) tickets

-- a ticket was asked with this answer: by one call, or by a second one, after a first had refused it
abbrev pub AsksTwice : {X : Type 0} → Ticket → Result X Refusal → List Asked → List Asked → Type 0
AsksTwice ticket answer old new = Asks ticket answer old new ⊎ Asks ticket answer (old ++ asked ticket false ∷ []) new

-- a ticket was served or not: by one call, or by a second one, after a first had refused it
abbrev pub IsAsked : Asked → List Asked → List Asked → Type 0
IsAsked one old new = (new ≡ old ++ one ∷ []) ⊎ (new ≡ (old ++ asked one.ticket false ∷ []) ++ one ∷ [])

-- tickets were asked one after another, each served or not
abbrev pub AreAsked : List Asked → List Asked → List Asked → Type 0
AreAsked [] old new = new ≡ old
AreAsked (one ∷ rest) old new = (between : List Asked) × IsAsked one old between × AreAsked rest between new

-- the same links, and what was taken of the inbox waits behind the rest of its channel, in order
abbrev pub Takes : InboxEnd → ClientLinks → InboxEnd → ClientLinks → Type 0
Takes before old after new =
    (new.client ≡ old.client) × (new.banks ≡ old.banks)
    × ((taken : List Ticket) × Took (OfClient old.client old.banks) before [] after taken
    × (all_of new.downward ≡ all_of old.downward ++ downward_in taken) × (all_of new.probes ≡ all_of old.probes ++ probes_in taken))

-- the same links, after a round over all Grants and ReleaseAcks that waited. Each may be asked twice: as the kind that is awaited, and as
-- the other; it is served if one of the two served it
abbrev pub ServesDownward : ClientLinks → List Asked → ClientLinks → List Asked → Type 0
ServesDownward old before new after =
    (new.client ≡ old.client) × (new.banks ≡ old.banks) × (new.probes ≡ old.probes)
    × ((all : List Asked) × AreAsked all before after × Goes [] (all_of old.downward) all (all_of new.downward))

-- the same links, after a round over all Probes that waited
abbrev pub ServesProbes : ClientLinks → List Asked → ClientLinks → List Asked → Type 0
ServesProbes old before new after =
    (new.client ≡ old.client) × (new.banks ≡ old.banks) × (new.downward ≡ old.downward)
    × ((all : List Asked) × (after ≡ before ++ all) × Goes [] (all_of old.probes) all (all_of new.probes))

-- none of these calls served its ticket
abbrev pub NoneServed : List Asked → Type 0
NoneServed [] = Unit {0}
NoneServed (one ∷ rest) = (one.served ≡ false) × NoneServed rest

-- where a round served no ticket, an answer of home is awaited as before, and nothing was sent
abbrev pub StaysQuiet : ClientLinks → List (List Ticket) → ClientLinks → List (List Ticket) → List Asked → Type 0
StaysQuiet old before new after calls = NoneServed calls → (new.awaits ≡ old.awaits) × (after ≡ before)

-- Where a turn served no ticket, an answer of home that was awaited is awaited still; and where the turn sent something,
-- an answer is awaited behind it. Which message it sent is not said
abbrev pub AwaitsAnswers : ClientLinks → List (List Ticket) → ClientLinks → List (List Ticket) → List Asked → Type 0
AwaitsAnswers old before new after calls =
    NoneServed calls → (old.awaits ≡ true → new.awaits ≡ true) × (after ≢ before → new.awaits ≡ true)

-- A turn: what was taken of the inbox joined those that wait on its channel. A round went over all Grants and ReleaseAcks, which may be
-- asked twice, and then one over all Probes; nothing else was asked
abbrev pub Works : InboxEnd → ClientLinks → InboxEnd → ClientLinks → List Asked → Type 0
Works before old after new calls =
    (new.client ≡ old.client) × (new.banks ≡ old.banks)
    × ((taken : List Ticket) × Took (OfClient old.client old.banks) before [] after taken
    × ((answers : List Asked) × (between : List Asked) × (probes : List Asked) × AreAsked answers [] between × (calls ≡ between ++ probes)
    × Goes [] (all_of old.downward ++ downward_in taken) answers (all_of new.downward)
    × Goes [] (all_of old.probes ++ probes_in taken) probes (all_of new.probes)))
