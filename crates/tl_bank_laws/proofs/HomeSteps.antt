-- An event of home and the memory alone: no message is sent or taken, and each client is as it was.
use Rattle.std.proofs.Common.{◌≡◌, ◌≢◌, ℕ, List, refl, sym, ◌∙◌, ap}
use Rattle.tl_types.specs.Lane.{Lane}
use Rattle.tl_types.specs.declared.channel.Channel.{Channel}
use Rattle.tl_map.specs.Places.{bank_of}
use Rattle.tl_protocol.specs.declared.client.Client.{Client}
use Rattle.tl_protocol.specs.declared.event.Event.{Event}
use Rattle.tl_protocol.specs.declared.event.Event.TheVariants.{SendGet, Serve, TakeData, Drop, SendPut, TakePutAck}
use Rattle.tl_protocol.specs.declared.home.Outward.{Outward}
use Rattle.tl_protocol.specs.declared.home.Outward.TheVariants.{Quiet, Get, Data, Put, PutAck}
use Rattle.tl_protocol.specs.declared.shape.Shape.{Shape}
use Rattle.tl_protocol.specs.Protocol.{Block, block_of, after, served, took_data}
use Rattle.tl_protocol.specs.Runs.{MayNext}
use Rattle.tl_protocol_lanes.specs.Lanes.{lane_after}
use Rattle.tl_protocol_lanes.specs.Lawful.{TakesFirst}
use Rattle.tl_bank_spec.specs.View.{View, shape_of, end_at, client_at}
use Rattle.tl_bank_spec.specs.Own.{IsOwn}
use Rattle.tl_bank_spec.specs.Clock.{IsLater, stamped}
use Rattle.tl_bank_home.specs.Homes.{HomeState, SameBank, line_in, recorded_in, outward_in, memory_in}
use Rattle.tl_bank_laws.specs.Entry.{entry_of}
use Rattle.tl_bank_laws.specs.Layers.{Layers}
use Rattle.tl_bank_laws.specs.Means.{Means, IsHomeOf}
use Rattle.tl_bank_laws.proofs.Next.{NextEvent, NextLayers, block_next}
use Rattle.tl_bank_laws.proofs.Pointwise.{each-next, here, homes-next, left, quiet-next}

-- ## The events

-- the event is one of home and the memory alone
abbrev pub IsHomes : Event → Type 0
IsHomes (SendGet block) = Unit {0}
IsHomes (Serve block) = Unit {0}
IsHomes (TakeData block) = Unit {0}
IsHomes (Drop block) = Unit {0}
IsHomes (SendPut block) = Unit {0}
IsHomes (TakePutAck block) = Unit {0}
IsHomes e = ⊥

-- such an event leaves each lane
homes-lane : (shape : Shape) (s : Block) (e : Event) (x : ℕ) (l : Channel) (lane : Lane) → IsHomes e → lane_after shape s e x l lane ≡ lane
homes-lane shape s (SendGet block) x l lane h = refl
homes-lane shape s (Serve block) x l lane h = refl
homes-lane shape s (TakeData block) x l lane h = refl
homes-lane shape s (Drop block) x l lane h = refl
homes-lane shape s (SendPut block) x l lane h = refl
homes-lane shape s (TakePutAck block) x l lane h = refl
homes-lane shape s e x l lane h = absurd h

-- and takes no message
homes-first : (shape : Shape) (image : List ℕ) (log : List Event) (e : Event) → IsHomes e → TakesFirst shape image log e
homes-first shape image log (SendGet block) h = tt
homes-first shape image log (Serve block) h = tt
homes-first shape image log (TakeData block) h = tt
homes-first shape image log (Drop block) h = tt
homes-first shape image log (SendPut block) h = tt
homes-first shape image log (TakePutAck block) h = tt
homes-first shape image log e h = absurd h

-- and has no stamp
homes-later : (clock : ℕ) (e : Event) → IsHomes e → IsLater clock e
homes-later clock (SendGet block) h = tt
homes-later clock (Serve block) h = tt
homes-later clock (TakeData block) h = tt
homes-later clock (Drop block) h = tt
homes-later clock (SendPut block) h = tt
homes-later clock (TakePutAck block) h = tt
homes-later clock e h = absurd h

-- so the clock stays
homes-clock : (clock : ℕ) (e : Event) → IsHomes e → clock ≡ stamped clock e
homes-clock clock (SendGet block) h = refl
homes-clock clock (Serve block) h = refl
homes-clock clock (TakeData block) h = refl
homes-clock clock (Drop block) h = refl
homes-clock clock (SendPut block) h = refl
homes-clock clock (TakePutAck block) h = refl
homes-clock clock e h = absurd h

-- the memory leaves each client as it is
served-clients : (s : Block) (out : Outward) → (served s out).client ≡ s.client
served-clients s Quiet = refl
served-clients s Get = refl
served-clients s (Data bytes) = refl
served-clients s (Put bytes) = refl
served-clients s PutAck = refl

-- so does home when it takes the bytes
took_data-clients : (s : Block) (out : Outward) → (took_data s out).client ≡ s.client
took_data-clients s Quiet = refl
took_data-clients s Get = refl
took_data-clients s (Data bytes) = refl
took_data-clients s (Put bytes) = refl
took_data-clients s PutAck = refl

-- such an event leaves each client of its block
pub homes-clients : (shape : Shape) (s : Block) (e : Event) → IsHomes e → (after shape s e).client ≡ s.client
homes-clients shape s (SendGet block) h = refl
homes-clients shape s (Serve block) h = served-clients s s.outward
homes-clients shape s (TakeData block) h = took_data-clients s s.outward
homes-clients shape s (Drop block) h = refl
homes-clients shape s (SendPut block) h = refl
homes-clients shape s (TakePutAck block) h = refl
homes-clients shape s e h = absurd h

-- and each client of each block
pub homes-client : (v : View) (e : Event) (b x : ℕ) → IsHomes e → (block_next v e b).client x ≡ client_at v x b
homes-client v e b x h =
    each-next v e (λ y s. s.client x ≡ client_at v x y)
    (ap (λ (client : ℕ → Client). client x) (homes-clients (shape_of v.geometry) (end_at v (here v e)) e h)) (λ y ne. refl) b

-- ## Home

-- home has of a block what it had
pub record SameAt (old new : HomeState) (b : ℕ) : Type 0 where
  pub line : line_in new b ≡ line_in old b
  pub recorded : (c : ℕ) → recorded_in new c b ≡ recorded_in old c b
  pub outward : outward_in new b ≡ outward_in old b
  pub memory : memory_in new b ≡ memory_in old b

-- what home has of a block is what it had
same-home : (old new : HomeState) (b : ℕ) (s : Block) → SameAt old new b → IsHomeOf old b s → IsHomeOf new b s
same-home old new b s same h = record {
  line = same.line ∙ h.line;
  recorded = λ c. same.recorded c ∙ h.recorded c;
  outward = same.outward ∙ h.outward;
  memory = same.memory ∙ h.memory;
}

-- What became of home: its part of the event's block follows, and it has of each other block what it had.
pub record HomeFollows (v : View) (e : Event) (old new : HomeState) : Type 0 where
  pub bank : SameBank old new
  pub at : IsHomeOf new (here v e) (left v e)
  pub others : (b : ℕ) → b ≢ here v e → SameAt old new b

-- ## One more such event

-- it is the next event, where it is permitted
pub homes-event : (v : View) (e : Event) → IsHomes e → MayNext (shape_of v.geometry) (end_at v) e
    → bank_of v.geometry (block_of (shape_of v.geometry) e) ≡ v.number → NextEvent v e
homes-event v e is may at = record {
  may = may;
  first = homes-first (shape_of v.geometry) v.image v.log e is;
  here = at;
  later = homes-later _ e is;
}

-- home alone changed
pub homes-layers : (v : View) (h : Layers) (home : HomeState) (e : Event) → Means v h → IsHomes e
    → IsOwn v.geometry v.number (block_of (shape_of v.geometry) e) → HomeFollows v e h.home home
    → NextLayers v e h (record h { home = home })
homes-layers v h home e m is own follows = record {
  lanes = λ x l inside. sym (homes-lane (shape_of v.geometry) (end_at v (block_of (shape_of v.geometry) e)) e x l _ is);
  copies = λ x y k l. m.copies x y k l ∙ ap entry_of (sym (homes-client v e y x is));
  home = homes-next v h e home m follows.at (λ b ne is_home. same-home h.home home b (end_at v b) (follows.others b ne) is_home);
  quiet = quiet-next v e h.home home own (λ b ne. (follows.others b ne).outward);
  links_size = record { bank = refl; clients = refl };
  copies_size = record { bank = refl; limit = refl; blocks = refl; clients = refl };
  home_bank = follows.bank;
  limit = refl;
  clock = homes-clock h.clock e is;
}
