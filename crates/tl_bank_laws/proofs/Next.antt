-- One more event, applied to the layers as the protocol says, leaves a bank whose layers hold what its log leaves.
use Rattle.std.proofs.Common.{◌≡◌, ℕ, ◌<◌, ◌≤◌, Bool, true, false, cond, List, [], ◌∷◌, ◌++◌, length, Option, Some, None, refl, sym, ◌∙◌, ap, subst}
use Rattle.std.specs.List.{All}
use Rattle.std.proofs.lemmas.List.Elements.{All-nil, All-cons, All-append, All-tail}
use Rattle.tl_types.specs.Lane.{Lane, is_here, with_message, first_taken, without_first}
use Rattle.tl_types.specs.declared.channel.Channel.{Channel}
use Rattle.tl_types.specs.declared.message.Message.{Message}
use Rattle.tl_map.specs.Numbers.{Numbers}
use Rattle.tl_map.specs.Places.{bank_of}
use Rattle.tl_protocol.specs.declared.event.Event.{Event}
use Rattle.tl_protocol.specs.Protocol.{Block, block_of}
use Rattle.tl_protocol.specs.Runs.{MayNext, after_next}
use Rattle.tl_protocol_lanes.specs.Lanes.{Post, LinkChannel, post_of, take_of, taken_from, sent_to, lane_after, lane_of}
use Rattle.tl_protocol_lanes.specs.Lawful.{TakesFirst}
use Rattle.tl_protocol_lanes.proofs.Logs.{end_of-append, lanes_grow_by_one, lawful_grows_by_one}
use Rattle.tl_links.specs.Table.{lane_in, SameSize as SameLinks}
use Rattle.tl_copies.specs.Copies.{held_at, SameSize as SameCopies}
use Rattle.tl_registers.specs.declared.register.Register.{Register}
use Rattle.tl_registers.specs.Agree.{Agree}
use Rattle.tl_bank_spec.specs.View.{View, shape_of, end_at}
use Rattle.tl_bank_spec.specs.Own.{IsOwn}
use Rattle.tl_bank_spec.specs.Clock.{IsLater, StampsRiseFrom, stamped, clock_from, clock_of}
use Rattle.tl_bank_home.specs.Homes.{SameBank, outward_in}
use Rattle.tl_bank_laws.specs.Entry.{entry_of}
use Rattle.tl_bank_laws.specs.Layers.{Layers}
use Rattle.tl_bank_laws.specs.Means.{Means, IsHomeOf, RegistersFit, WaysFit}
use Rattle.tl_bank_laws.proofs.Accepted.{accepted-by-agree}

-- ## One more event

-- the view after one more event
abbrev pub next_view : View → Event → ℕ → List Register → List (Option ℕ) → View
next_view v e room registers ways = record v { log = v.log ++ e ∷ []; room = room; registers = registers; ways = ways }

-- what is held of each block then
abbrev pub block_next : View → Event → ℕ → Block
block_next v e = after_next (shape_of v.geometry) (end_at v) e

-- the event is permitted, takes the first message of its channel, is on a block of the bank, and later than all before it
pub record NextEvent (v : View) (e : Event) : Type 0 where
  pub may : MayNext (shape_of v.geometry) (end_at v) e
  pub first : TakesFirst (shape_of v.geometry) v.image v.log e
  pub here : bank_of v.geometry (block_of (shape_of v.geometry) e) ≡ v.number
  pub later : IsLater (clock_of v.log) e

-- what became of the layers: each holds of every block what the event leaves
pub record NextLayers (v : View) (e : Event) (old new : Layers) : Type 0 where
  pub lanes :
      (x : ℕ) (l : Channel) → x < v.geometry.clients → lane_in new.links x l
      ≡ lane_after (shape_of v.geometry) (end_at v (block_of (shape_of v.geometry) e)) e x l (lane_in old.links x l)
  pub copies :
      (x y : ℕ) → x < v.geometry.clients → y < v.geometry.memory_blocks → held_at new.copies x y
      ≡ entry_of ((block_next v e y).client x)
  pub home : (b : ℕ) → IsOwn v.geometry v.number b → IsHomeOf new.home b (block_next v e b)
  pub quiet : (b : ℕ) → (IsOwn v.geometry v.number b → ⊥) → outward_in new.home b ≡ outward_in old.home b
  pub links_size : SameLinks old.links new.links
  pub copies_size : SameCopies old.copies new.copies
  pub home_bank : SameBank old.home new.home
  pub limit : new.limit ≡ old.limit
  pub clock : new.clock ≡ stamped old.clock e

-- One more event keeps a bank, where the registers and the ways fit the new view.
abbrev pub MeansNext : Type 0
MeansNext =
    (v : View) (old new : Layers) (e : Event) (room : ℕ) (registers : List Register) (ways : List (Option ℕ))
    → Means v old → NextEvent v e → NextLayers v e old new
    → RegistersFit (next_view v e room registers ways) → WaysFit (next_view v e room registers ways) new.home
    → Means (next_view v e room registers ways) new

-- Registers that agree with what the event leaves fit the new view.
abbrev pub RegistersNext : Type 0
RegistersNext =
    (v : View) (e : Event) (room : ℕ) (registers : List Register) (ways : List (Option ℕ))
    → Agree (shape_of v.geometry) (block_next v e) registers → length registers ≤ v.geometry.registers
    → RegistersFit (next_view v e room registers ways)

-- what is held of each block of the new view
abbrev pub BlocksNext : Type 0
BlocksNext =
    (v : View) (e : Event) (room : ℕ) (registers : List Register) (ways : List (Option ℕ))
    → end_at (next_view v e room registers ways) ≡ block_next v e

-- each block of the new view is held as the event leaves it
pub blocks-next : BlocksNext
blocks-next v e room registers ways = end_of-append (shape_of v.geometry) v.image v.log e

-- registers that agree with what the event leaves fit the new view
pub registers-next : RegistersNext
registers-next v e room registers ways agree few = record {
  agree = subst (λ (t : ℕ → Block). Agree (shape_of v.geometry) t registers) (sym (blocks-next v e room registers ways)) agree;
  few = few;
}

-- ## The clock

-- the clock after one more event
pub clock_from-append : (clock : ℕ) (log : List Event) (e : Event) → clock_from clock (log ++ e ∷ []) ≡ stamped (clock_from clock log) e
clock_from-append clock [] e = refl
clock_from-append clock (x ∷ log) e = clock_from-append (stamped clock x) log e

-- stamps rise with one more event that is later
pub stamps-append : (clock : ℕ) (log : List Event) (e : Event) → StampsRiseFrom clock log → IsLater (clock_from clock log) e
    → StampsRiseFrom clock (log ++ e ∷ [])
stamps-append clock [] e rise later = (later, tt)
stamps-append clock (x ∷ log) e rise later = (rise.0, stamps-append (stamped clock x) log e rise.1 later)

-- ## The messages that wait

-- a message is of a block of which a fact holds
abbrev Of : (ℕ → Type 0) → Message → Type 0
Of P x = P x.block

-- where all messages are of such blocks, so are those that are left without the first
inside-first : (P : ℕ → Type 0) (taken : ℕ) (xs : List Message) → All (Of P) xs → All (Of P) (first_taken taken xs).messages
inside-first P taken [] h = h
inside-first P taken (x ∷ rest) h = All-tail (Of P) x rest h

-- so are those of a lane, whether its first was taken or not
inside-here : (P : ℕ → Type 0) (lane : Lane) (t : Bool) → All (Of P) lane.messages → All (Of P) (cond t (without_first lane) lane).messages
inside-here P lane true h = inside-first P lane.taken lane.messages h
inside-here P lane false h = h

-- so are those of each lane once an event took what it takes
inside-taken : (P : ℕ → Type 0) (place : Option LinkChannel) (x : ℕ) (l : Channel) (lane : Lane)
    → All (Of P) lane.messages → All (Of P) (taken_from place x l lane).messages
inside-taken P None x l lane h = h
inside-taken P (Some place) x l lane h = inside-here P lane (is_here place.client place.channel x l) h

-- and once one more message of such a block is sent there, or none
inside-with : (P : ℕ → Type 0) (lane : Lane) (message : Message) (t : Bool) → P message.block
    → All (Of P) lane.messages → All (Of P) (cond t (with_message lane message) lane).messages
inside-with P lane message true p h =
    All-append (Of P) lane.messages (message ∷ []) h (All-cons (Of P) message [] p (All-nil (Of P)))
inside-with P lane message false p h = h

-- so are those of each lane once an event of such a block sent what it sends
inside-sent : (P : ℕ → Type 0) (post : Option Post) (block x : ℕ) (l : Channel) (lane : Lane) → P block
    → All (Of P) lane.messages → All (Of P) (sent_to post block x l lane).messages
inside-sent P None block x l lane p h = h
inside-sent P (Some post) block x l lane p h =
    inside-with P lane (record { block = block; body = post.body }) (is_here post.client post.channel x l) p h

-- ## The bank after it

-- one more event keeps a bank, where the registers and the ways fit the new view
pub means-next : MeansNext
means-next v old new e room registers ways m next layers fit in_ways =
    let g : Numbers = v.geometry in
    let shape = shape_of g in
    let image : List ℕ = v.image in
    let log : List Event = v.log in
    let block : ℕ = block_of shape e in
    let s : Block = end_at v block in
    let own : IsOwn g v.number block = (next.may.0, next.here) in
    let then : end_at (next_view v e room registers ways) ≡ block_next v e = blocks-next v e room registers ways in
    record {
      lawful = lawful_grows_by_one shape image log e m.lawful next.may next.first;
      own =
          All-append (λ (e : Event). IsOwn g v.number (block_of shape e)) log (e ∷ []) m.own
          (All-cons (λ (e : Event). IsOwn g v.number (block_of shape e)) e [] own (All-nil (λ (e : Event). IsOwn g v.number (block_of shape e))));
      rising = stamps-append 0 log e m.rising next.later;
      inside = λ x l.
          subst (λ (lane : Lane). All (Of (IsOwn g v.number)) lane.messages) (sym (lanes_grow_by_one shape image log e x l))
          (inside-sent (IsOwn g v.number) (post_of shape s e) block x l (taken_from (take_of e) x l (lane_of shape image log x l)) own
          (inside-taken (IsOwn g v.number) (take_of e) x l (lane_of shape image log x l) (m.inside x l)));
      lanes = λ x l h.
          layers.lanes x l h ∙ ap (λ (lane : Lane). lane_after shape s e x l lane) (m.lanes x l h)
          ∙ sym (lanes_grow_by_one shape image log e x l);
      copies = λ x y h l. layers.copies x y h l ∙ ap (λ (t : ℕ → Block). entry_of ((t y).client x)) (sym then);
      home = λ y o. subst (λ (t : ℕ → Block). IsHomeOf new.home y (t y)) (sym then) (layers.home y o);
      quiet = λ y no. layers.quiet y no ∙ m.quiet y no;
      accepted = λ y. accepted-by-agree shape (end_at (next_view v e room registers ways)) registers fit.agree y;
      registers = fit;
      ways = in_ways;
      clock = layers.clock ∙ ap (λ n. stamped n e) m.clock ∙ sym (clock_from-append 0 log e);
      geometry = m.geometry;
      links_bank = layers.links_size.bank ∙ m.links_bank;
      links_clients = layers.links_size.clients ∙ m.links_clients;
      copies_clients = layers.copies_size.clients ∙ m.copies_clients;
      copies_blocks = layers.copies_size.blocks ∙ m.copies_blocks;
      copies_limit = layers.copies_size.limit ∙ m.copies_limit;
      home_geometry = layers.home_bank.geometry ∙ m.home_geometry;
      home_bank = layers.home_bank.bank ∙ m.home_bank;
      limit = layers.limit ∙ m.limit;
    }
