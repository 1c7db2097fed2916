-- The first message of a channel, which a ticket names.
use Rattle.std.proofs.Common.{◌≡◌, ◌≢◌, ℕ, ◌<◌, ◌==◌, not, Bool, true, false, List, [], ◌∷◌, refl, sym, ◌∙◌, ap, subst, eqb-true}
use Rattle.std.specs.List.{All}
use Rattle.std.proofs.lemmas.List.Elements.{All-head}
use Rattle.std.proofs.lemmas.Bool.{or_parts, not-false}
use Rattle.tl_types.specs.Channel.{same_channel}
use Rattle.tl_types.specs.Lane.{Lane, bodies_of, IsFirst}
use Rattle.tl_types.specs.declared.channel.Channel.{Channel}
use Rattle.tl_types.specs.declared.message.Body.{Body}
use Rattle.tl_types.specs.declared.message.Message.{Message}
use Rattle.tl_types.specs.declared.ticket.Ticket.{Ticket}
use Rattle.tl_types.proofs.Lanes.{same_channel-true}
use Rattle.tl_protocol_lanes.specs.Lists.{list_in}
use Rattle.tl_protocol_lanes.proofs.Logs.{first_heads_its_list}
use Rattle.tl_links.specs.Table.{lane_in}
use Rattle.tl_bank_spec.specs.Cases.{begins, block_named, first_block, not_head, other_channel}
use Rattle.tl_bank_spec.specs.View.{View, shape_of, client_at}
use Rattle.tl_bank_spec.specs.Own.{IsOwn}
use Rattle.tl_bank_spec.specs.Channels.{lane_at}
use Rattle.tl_bank_laws.specs.Layers.{Layers}
use Rattle.tl_bank_laws.specs.Link.{IsHead}
use Rattle.tl_bank_laws.specs.Means.{Means}

-- a ticket names the first message of a channel, which is of a kind
pub record HeadAllowed (v : View) (t : Ticket) (k : Channel) (kind : Body → Bool) : Type 0 where
  pub client : t.client < v.geometry.clients
  pub bank : t.bank ≡ v.number
  pub channel : t.channel ≡ k
  pub serial : t.serial ≡ (lane_at v t.client k).taken
  pub first : (x : Message) × (rest : List Message) × ((lane_at v t.client k).messages ≡ x ∷ rest) × (kind x.body ≡ true)

-- messages that are found to begin with one of a kind have a first, which is of that kind
first-kind : (kind : Body → Bool) (xs : List Message) → not (begins kind xs) ≡ false
    → (x : Message) × (rest : List Message) × (xs ≡ x ∷ rest) × (kind x.body ≡ true)
first-kind kind [] h = cc
first-kind kind (x ∷ rest) h = (x, rest, refl, not-false (kind x.body) h)

-- so does a ticket of a client that is there, which is refused neither for its bank nor its channel nor its message
pub head-allowed : (v : View) (t : Ticket) (k : Channel) (kind : Body → Bool) → t.client < v.geometry.clients
    → not (t.bank == v.number) ≡ false → other_channel t k ≡ false → not_head v t k kind ≡ false → HeadAllowed v t k kind
head-allowed v t k kind lt bank channel head =
    let both = or_parts (not (t.serial == (lane_at v t.client k).taken)) (not (begins kind (lane_at v t.client k).messages)) head in
    record {
      client = lt;
      bank = eqb-true t.bank v.number (not-false (t.bank == v.number) bank);
      channel = same_channel-true t.channel k (not-false (same_channel t.channel k) channel);
      serial = eqb-true t.serial (lane_at v t.client k).taken (not-false (t.serial == (lane_at v t.client k).taken) both.0);
      first = first-kind kind (lane_at v t.client k).messages both.1;
    }

-- a list of messages with a first one is not empty
not-empty : (xs : List Message) (x : Message) (rest : List Message) → xs ≡ x ∷ rest → xs ≢ []
not-empty xs x rest e f = let both : x ∷ rest ≡ [] = sym e ∙ f in cc

-- so the links have it first
pub is-head : (v : View) (h : Layers) (t : Ticket) (k : Channel) (kind : Body → Bool) → Means v h → HeadAllowed v t k kind → IsHead h.links t
is-head v h t k kind m ok = record {
  bank = ok.bank ∙ sym m.links_bank;
  client = rw m.links_clients ok.client;
  waits = rw (ok.channel, m.lanes t.client k ok.client) (not-empty (lane_at v t.client k).messages ok.first.0 ok.first.1 ok.first.2);
  serial = rw (ok.channel, m.lanes t.client k ok.client) ok.serial;
}

-- what holds of the blocks of all messages of a list holds of its first one's
own-first : (P : ℕ → Type 0) (xs : List Message) (x : Message) (rest : List Message) → xs ≡ x ∷ rest → All (λ y. P y.block) xs
    → P (first_block xs)
own-first P xs x rest e h =
    let Q : List Message → Type 0 = λ ys. All (λ y. P y.block) ys in
    let R : List Message → Type 0 = λ ys. P (first_block ys) in
    subst R (sym e) (All-head (λ (y : Message). P y.block) x rest (subst Q e h))

-- its block is one of this bank
pub head-own : (v : View) (h : Layers) (t : Ticket) (k : Channel) (kind : Body → Bool) → Means v h → HeadAllowed v t k kind
    → IsOwn v.geometry v.number (block_named v t k)
head-own v h t k kind m ok =
    own-first (IsOwn v.geometry v.number) (lane_at v t.client k).messages ok.first.0 ok.first.1 ok.first.2 (m.inside t.client k)

-- it heads the list of its block
pub head-list : (v : View) (h : Layers) (t : Ticket) (k : Channel) (kind : Body → Bool) → Means v h → (ok : HeadAllowed v t k kind)
    → list_in (client_at v t.client (block_named v t k)) k ≡ ok.first.0.body ∷ bodies_of ok.first.0.block ok.first.1
head-list v h t k kind m ok =
    let x : Message = ok.first.0 in
    let rest : List Message = ok.first.1 in
    let at : block_named v t k ≡ x.block = ap first_block ok.first.2 in
    ap (λ b. list_in (client_at v t.client b) k) at
    ∙ first_heads_its_list (shape_of v.geometry) v.image v.log t.client k x rest m.lawful ok.first.2

-- a first message is of the block that the list is said to begin with
first-of : (xs : List Message) (x : Message) (rest : List Message) → xs ≡ x ∷ rest → IsFirst (first_block xs) xs
first-of xs x rest e = let R : List Message → Type 0 = λ ys. IsFirst (first_block ys) ys in subst R (sym e) refl

-- and is the first of its channel
pub head-first : (v : View) (t : Ticket) (k : Channel) (kind : Body → Bool) → HeadAllowed v t k kind
    → IsFirst (block_named v t k) (lane_at v t.client k).messages
head-first v t k kind ok = first-of (lane_at v t.client k).messages ok.first.0 ok.first.1 ok.first.2

-- the first message of a link is of a block of this bank
pub first-own : (v : View) (h : Layers) (c : ℕ) (k : Channel) (x : Message) (rest : List Message) → Means v h
    → c < v.geometry.clients → (lane_in h.links c k).messages ≡ x ∷ rest → IsOwn v.geometry v.number x.block
first-own v h c k x rest m lt is =
    let e : (lane_at v c k).messages ≡ x ∷ rest = ap (λ (l : Lane). l.messages) (sym (m.lanes c k lt)) ∙ is in
    let Q : List Message → Type 0 = λ ys. All (λ y. IsOwn v.geometry v.number y.block) ys in
    All-head (λ (y : Message). IsOwn v.geometry v.number y.block) x rest (subst Q e (m.inside c k))

-- which is the one that the channel's first message speaks of
pub named-own : (v : View) (h : Layers) (c : ℕ) (k : Channel) (x : Message) (rest : List Message) → Means v h
    → c < v.geometry.clients → (lane_in h.links c k).messages ≡ x ∷ rest
    → IsOwn v.geometry v.number (first_block (lane_at v c k).messages)
named-own v h c k x rest m lt is =
    own-first (IsOwn v.geometry v.number) (lane_at v c k).messages x rest
    (ap (λ (l : Lane). l.messages) (sym (m.lanes c k lt)) ∙ is) (m.inside c k)

-- so of a block of the memory
pub first-inside : (v : View) (h : Layers) (c : ℕ) (k : Channel) (x : Message) (rest : List Message) → Means v h
    → c < v.geometry.clients → (lane_in h.links c k).messages ≡ x ∷ rest → x.block < v.geometry.memory_blocks
first-inside v h c k x rest m lt is = (first-own v h c k x rest m lt is).0
