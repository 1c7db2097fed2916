-- A call with the first message's ticket is not refused; and one that is not refused has something to take.
use Rattle.std.proofs.Common.{◌≡◌, ℕ, ◌<◌, ◌==◌, ◌||◌, not, Bool, true, false, List, [], ◌∷◌, ◌++◌, None, refl, ◌∙◌, ap, arith, eq-eqb}
use Rattle.std.proofs.lemmas.Bool.Decides.{nat_tests}
use Rattle.tl_types.specs.Channel.{channel_index}
use Rattle.tl_types.specs.declared.channel.Channel.{Channel}
use Rattle.tl_types.specs.declared.message.Body.{Body}
use Rattle.tl_types.specs.declared.message.Message.{Message}
use Rattle.tl_types.specs.declared.ticket.Ticket.{Ticket}
use Rattle.tl_bank_spec.specs.Calls.{message_cases, shared_ticket_cases, ticket_cases}
use Rattle.tl_bank_spec.specs.Cases.{bad_share, begins, is_empty, link_full, no_client, not_head, other_channel, other_share}
use Rattle.tl_bank_spec.specs.Channels.{lane_at}
use Rattle.tl_bank_spec.specs.Refusal.{Case, first_of}
use Rattle.tl_bank_spec.specs.Tables.{copies_at}
use Rattle.tl_bank_spec.specs.View.{View}
use Rattle.tl_bank_rest.specs.Heads.{IsHead}
use Rattle.tl_bank_rest.specs.Shares.{share_of}

-- none of these cases holds
abbrev pub NoneHolds : List Case → Type 0
NoneHolds [] = Unit {0}
NoneHolds (x ∷ rest) = (x.0 ≡ false) × NoneHolds rest

-- where no case holds none is refused
pub not-refused : (cases : List Case) → NoneHolds cases → first_of cases ≡ None
not-refused [] h = refl
not-refused (x ∷ rest) h = rw h.0 (not-refused rest h.1)

-- where no case of a list and none of another holds, none of the two together does
pub none-more : (cases more : List Case) → NoneHolds cases → NoneHolds more → NoneHolds (cases ++ more)
none-more [] more h g = g
none-more (x ∷ rest) more h g = (h.0, none-more rest more h.1 g)

-- ## The first message's ticket

-- its client is there
head-client : (v : View) (channel : Channel) (ticket : Ticket) (message : Message) → IsHead v channel ticket message
    → no_client v ticket.client ≡ false
head-client v channel ticket message h = let lt : ticket.client < v.geometry.clients = h.client in grind (arith, nat_tests)

-- its bank is this one
head-bank : (v : View) (channel : Channel) (ticket : Ticket) (message : Message) → IsHead v channel ticket message
    → not (ticket.bank == v.number) ≡ false
head-bank v channel ticket message h = rw (eq-eqb ticket.bank v.number h.bank) refl

-- it names the channel
head-channel : (v : View) (channel : Channel) (ticket : Ticket) (message : Message) → IsHead v channel ticket message
    → other_channel ticket channel ≡ false
head-channel v channel ticket message h =
    rw (eq-eqb (channel_index ticket.channel) (channel_index channel) (ap channel_index h.on)) refl

-- a message waits there
some-wait : (xs : List Message) (message : Message) (rest : List Message) → xs ≡ message ∷ rest → is_empty xs ≡ false
some-wait xs message rest e = ap is_empty e

-- the first one is of its kind
first-begins : (kind : Body → Bool) (xs : List Message) (message : Message) (rest : List Message) → xs ≡ message ∷ rest
    → kind message.body ≡ true → not (begins kind xs) ≡ false
first-begins kind xs message rest e h = ap (λ (ys : List Message). not (begins kind ys)) e ∙ ap not h

-- the ticket names just that message
head-serial : (v : View) (channel : Channel) (ticket : Ticket) (message : Message) (kind : Body → Bool) → IsHead v channel ticket message
    → kind message.body ≡ true → not_head v ticket channel kind ≡ false
head-serial v channel ticket message kind h is =
    let serial : (ticket.serial == (lane_at v ticket.client channel).taken) ≡ true =
    eq-eqb ticket.serial (lane_at v ticket.client channel).taken h.serial in
    let begin = first-begins kind (lane_at v ticket.client channel).messages message h.rest h.first is in
    rw (serial, begin) refl

-- so no case of its message holds
head-message : (v : View) (channel : Channel) (ticket : Ticket) (message : Message) (kind : Body → Bool) → IsHead v channel ticket message
    → kind message.body ≡ true → NoneHolds (message_cases v ticket channel kind)
head-message v channel ticket message kind h is = (
  head-channel v channel ticket message h,
  (
    some-wait (lane_at v ticket.client channel).messages message h.rest h.first,
    (head-serial v channel ticket message kind h is, tt),
  ),
)

-- nor of the ticket
pub head-cases : (v : View) (channel : Channel) (ticket : Ticket) (message : Message) (kind : Body → Bool) → IsHead v channel ticket message
    → kind message.body ≡ true → NoneHolds (ticket_cases v ticket channel kind)
head-cases v channel ticket message kind h is = (
  head-client v channel ticket message h,
  (head-bank v channel ticket message h, head-message v channel ticket message kind h is),
)

-- a client's own share fits
share-fits : (v : View) (client : ℕ) → bad_share v client (share_of v client) ≡ false
share-fits v client =
    rw (eq-eqb client client refl, eq-eqb v.number v.number refl, eq-eqb (copies_at v client) (copies_at v client) refl) refl

-- and is of this bank
share-here : (v : View) (client : ℕ) → other_share v (share_of v client) ≡ false
share-here v client = rw (eq-eqb v.number v.number refl) refl

-- neither of two tests holds
neither : (a b : Bool) → a ≡ false → b ≡ false → (a || b) ≡ false
neither a b e f = rw (e, f) refl

-- so no case of the ticket with its client's own share holds
pub shared-cases : (v : View) (channel : Channel) (ticket : Ticket) (message : Message) (kind : Body → Bool)
    → IsHead v channel ticket message → kind message.body ≡ true
    → NoneHolds (shared_ticket_cases v ticket (share_of v ticket.client) channel kind)
shared-cases v channel ticket message kind h is = (
  neither (no_client v ticket.client) (bad_share v ticket.client (share_of v ticket.client)) (head-client v channel ticket message h)
      (share-fits v ticket.client),
  (
    neither (not (ticket.bank == v.number)) (other_share v (share_of v ticket.client)) (head-bank v channel ticket message h)
        (share-here v ticket.client),
    head-message v channel ticket message kind h is,
  ),
)

-- ## Links

-- an empty channel is not full
pub empty-room : (v : View) (client : ℕ) (channel : Channel) → (lane_at v client channel).messages ≡ [] → link_full v client channel ≡ false
empty-room v client channel e = rw e refl
