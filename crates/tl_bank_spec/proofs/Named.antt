-- A ticket that is not refused names the first message of its channel.
use Rattle.std.proofs.Common.{◌≡◌, ◌-◌, ◌==◌, not, Bool, true, false, List, [], ◌∷◌, ◌++◌, Some, None, if◌then◌else◌, slice_get, refl, ◌∙◌, ap, arith, eqb-true, nat_lt}
use Rattle.std.proofs.lemmas.Bool.{or_parts, not-false, le-ltb}
use Rattle.tl_types.proofs.Lanes.{same_channel-true}
use Rattle.tl_types.specs.Channel.{same_channel}
use Rattle.tl_types.specs.Lane.{Lane, message_at}
use Rattle.tl_types.specs.declared.channel.Channel.{Channel}
use Rattle.tl_types.specs.declared.message.Body.{Body}
use Rattle.tl_types.specs.declared.message.Message.{Message}
use Rattle.tl_types.specs.declared.ticket.Ticket.{Ticket}
use Rattle.tl_bank_spec.specs.Calls.{ticket_cases, shared_ticket_cases}
use Rattle.tl_bank_spec.specs.Cases.{bad_share, begins, no_client, not_head, other_channel, other_share}
use Rattle.tl_bank_spec.specs.Delivered.{EveryTicketNamesTheFirst, NamesFirst}
use Rattle.tl_bank_spec.specs.Refusal.{Case, first_of}
use Rattle.tl_bank_spec.specs.View.{View}
use Rattle.tl_bank_spec.specs.Channels.{lane_at}
use Rattle.tl_bank_spec.specs.Views.{in_flight_at}
use Rattle.tl_bank_spec.specs.declared.refusal.Refusal.{Refusal}

-- none of these cases holds
abbrev NoneHolds : List Case → Type 0
NoneHolds [] = Unit {0}
NoneHolds (x ∷ rest) = (x.0 ≡ false) × NoneHolds rest

-- where there is no first refusal, the first case does not hold, and there is none among the rest
first-false : (refusal : Refusal) (t : Bool) (rest : List Case) → (if t then Some refusal else first_of rest) ≡ None
    → (t ≡ false) × (first_of rest ≡ None)
first-false refusal true rest h = cc
first-false refusal false rest h = (refl, h)

-- where there is no first refusal, no case holds
none-holds : (cases : List Case) → first_of cases ≡ None → NoneHolds cases
none-holds [] h = tt
none-holds (x ∷ rest) h =
    let both : (x.0 ≡ false) × (first_of rest ≡ None) = first-false x.1 x.0 rest h in
    (both.0, none-holds rest both.1)

-- messages that are found to begin with one of a kind have a first, which is of that kind
first-kind : (kind : Body → Bool) (messages : List Message) → not (begins kind messages) ≡ false
    → (m : Message) × (rest : List Message) × (messages ≡ m ∷ rest) × (kind m.body ≡ true)
first-kind kind [] h = cc
first-kind kind (m ∷ rest) h = (m, rest, refl, not-false (kind m.body) h)

-- the first message of a lane has the serial of those taken before it
first-at : (lane : Lane) (m : Message) (rest : List Message) → lane.messages ≡ m ∷ rest → message_at lane lane.taken ≡ Some m
first-at lane m rest is =
    let here : nat_lt lane.taken lane.taken ≡ false = le-ltb lane.taken lane.taken (omega arith) in
    let none : lane.taken - lane.taken ≡ 0 = omega arith in
    rw (here, none) (ap (λ (messages : List Message). slice_get messages 0) is)

-- a ticket of a client that is there and of this bank, which names the channel and its first message's serial and kind
names-first : (v : View) (ticket : Ticket) (channel : Channel) (kind : Body → Bool) → no_client v ticket.client ≡ false
    → not (ticket.bank == v.number) ≡ false → other_channel ticket channel ≡ false → not_head v ticket channel kind ≡ false
    → NamesFirst v ticket channel kind
names-first v ticket channel kind client bank other head =
    let lane : Lane = lane_at v ticket.client channel in
    let both = or_parts (not (ticket.serial == lane.taken)) (not (begins kind lane.messages)) head in
    let at : ticket.channel ≡ channel = same_channel-true ticket.channel channel (not-false (same_channel ticket.channel channel) other) in
    let serial : ticket.serial ≡ lane.taken = eqb-true ticket.serial lane.taken (not-false (ticket.serial == lane.taken) both.0) in
    let first = first-kind kind lane.messages both.1 in
    let known : in_flight_at v ticket ≡ message_at (lane_at v ticket.client ticket.channel) ticket.serial = rw (client, bank) refl in
    record {
      on = at;
      message = first.0;
      rest = first.1;
      first = first.2;
      is_kind = first.3;
      named =
          known
          ∙ (ap (λ (l : Channel). message_at (lane_at v ticket.client l) ticket.serial) at
          ∙ (ap (message_at lane) serial ∙ first-at lane first.0 first.1 first.2));
    }

-- so does each that a call with tickets does not refuse
pub every_ticket_names_the_first : EveryTicketNamesTheFirst
every_ticket_names_the_first v ticket channel kind more = (
  (λ none.
      let f : NoneHolds (ticket_cases v ticket channel kind ++ more) =
      none-holds (ticket_cases v ticket channel kind ++ more) none in
      names-first v ticket channel kind f.0 f.1.0 f.1.1.0 f.1.1.1.1.0),
  (λ share none.
      let f : NoneHolds (shared_ticket_cases v ticket share channel kind ++ more) =
      none-holds (shared_ticket_cases v ticket share channel kind ++ more) none in
      let client = or_parts (no_client v ticket.client) (bad_share v ticket.client share) f.0 in
      let bank = or_parts (not (ticket.bank == v.number)) (other_share v share) f.1.0 in
      names-first v ticket channel kind client.0 bank.0 f.1.1.0 f.1.1.1.1.0),
)
