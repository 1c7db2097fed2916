-- An event of one client, applied to the layers as the protocol says, leaves a bank whose layers hold what its log leaves.
use Rattle.std.proofs.Common.{◌≡◌, ℕ, ◌==◌, Bool, true, false, cond, List, [], ◌∷◌, ◌++◌, Option, refl, sym, ◌∙◌, ap, subst}
use Rattle.tl_types.specs.declared.channel.Channel.{Channel}
use Rattle.tl_map.specs.Numbers.{Numbers}
use Rattle.tl_map.specs.Places.{bank_of}
use Rattle.tl_protocol.specs.declared.client.Client.{Client}
use Rattle.tl_protocol.specs.declared.event.Event.{Event}
use Rattle.tl_protocol.specs.declared.event.Event.TheVariants.{Load, Store, SendAcquire, SendRelease, AnswerProbe, TakeGrant, TakeReleaseAck, AcceptAcquire, SendProbe, TakeC, SendGrant, TakeGrantAck, SendGet, Serve, TakeData, Drop, SendPut, TakePutAck}
use Rattle.tl_protocol.specs.Protocol.{Block, block_of, after}
use Rattle.tl_protocol.specs.Runs.{MayNext, end_of}
use Rattle.tl_protocol_lanes.specs.Lanes.{lane_after}
use Rattle.tl_protocol_lanes.specs.Lawful.{TakesFirst}
use Rattle.tl_protocol_lanes.specs.Lists.{leaves_home, SameHome}
use Rattle.tl_protocol_lanes.proofs.Cells.{client-append, field-append, home-append}
use Rattle.tl_protocol_lanes.proofs.Events.{every_such_event_leaves_home}
use Rattle.tl_links.specs.Table.{lane_in, SameSize as SameLinks}
use Rattle.tl_copies.specs.Copies.{held_at, is_cell, SameSize as SameCopies}
use Rattle.tl_copies.specs.declared.held.Held.{Held}
use Rattle.tl_registers.specs.Agree.{LeavesRegisters}
use Rattle.tl_bank_spec.specs.View.{View, shape_of, end_at, client_at}
use Rattle.tl_bank_spec.specs.Clock.{IsLater, stamped, clock_of}
use Rattle.tl_bank_laws.specs.Entry.{entry_of}
use Rattle.tl_bank_home.specs.Homes.{HomeState, bank_in, geometry_in, way_in, free_at, order_at, outward_in}
use Rattle.tl_bank_laws.specs.Layers.{Layers}
use Rattle.tl_bank_laws.specs.Means.{Means, IsHomeOf}
use Rattle.tl_bank_laws.proofs.Next.{next_view, block_next, blocks-next, NextLayers, means-next}
use Rattle.tl_bank_laws.proofs.Orders.{GrantsNothing}
use Rattle.tl_bank_laws.proofs.Pending.{HoldsOn}
use Rattle.tl_bank_laws.proofs.Ways.{bank-steady, fit-stays, same-work, ways-stay}

-- ## One event of a client

-- what the event is: permitted, later than all before it, and of a client that has k afterwards
pub record ClientStep (v : View) (e : Event) (c : ℕ) (k : Client) : Type 0 where
  pub may : MayNext (shape_of v.geometry) (end_at v) e
  pub first : TakesFirst (shape_of v.geometry) v.image v.log e
  pub leaves : leaves_home e ≡ true
  pub leaves_registers : LeavesRegisters e
  pub here : bank_of v.geometry (block_of (shape_of v.geometry) e) ≡ v.number
  pub later : IsLater (clock_of v.log) e
  pub client :
      (x : ℕ) → (after (shape_of v.geometry) (end_at v (block_of (shape_of v.geometry) e)) e).client x
      ≡ cond (x == c) k (client_at v x (block_of (shape_of v.geometry) e))
  pub recorded : k.recorded ≡ (client_at v c (block_of (shape_of v.geometry) e)).recorded

-- what became of the layers
pub record LayersFollow (v : View) (e : Event) (c : ℕ) (k : Client) (old new : Layers) : Type 0 where
  pub lanes :
      (x : ℕ) (l : Channel) → lane_in new.links x l
      ≡ lane_after (shape_of v.geometry) (end_at v (block_of (shape_of v.geometry) e)) e x l (lane_in old.links x l)
  pub copies :
      (x y : ℕ) → held_at new.copies x y
      ≡ cond (is_cell c (block_of (shape_of v.geometry) e) x y) (entry_of k) (held_at old.copies x y)
  pub links_size : SameLinks old.links new.links
  pub copies_size : SameCopies old.copies new.copies
  pub home : new.home ≡ old.home
  pub limit : new.limit ≡ old.limit
  pub clock : new.clock ≡ stamped old.clock e

-- choosing one of two parts of a client chooses its entry
if-entry : (t : Bool) (k old : Client) → cond t (entry_of k) (entry_of old) ≡ entry_of (cond t k old)
if-entry true k old = refl
if-entry false k old = refl

-- home's part is the same, and so is the block's
home-stays : (home : HomeState) (block : ℕ) (s t : Block) → IsHomeOf home block s → SameHome s t
    → ((c : ℕ) → (t.client c).recorded ≡ (s.client c).recorded) → IsHomeOf home block t
home-stays home block s t h same recorded = record {
  line = h.line ∙ sym same.home;
  recorded = λ c. h.recorded c ∙ sym (recorded c);
  outward = h.outward ∙ sym same.outward;
  memory = h.memory ∙ sym same.memory;
}

-- such an event grants nothing, and moves no block
of-client : (e : Event) → LeavesRegisters e → leaves_home e ≡ true → GrantsNothing e × HoldsOn e
of-client (Load access) leaves h = (tt, tt)
of-client (Store access) leaves h = (tt, tt)
of-client (SendAcquire c block grow) leaves h = (tt, tt)
of-client (SendRelease c block prune) leaves h = (tt, tt)
of-client (AnswerProbe c block) leaves h = (tt, tt)
of-client (TakeGrant c block) leaves h = (tt, tt)
of-client (TakeReleaseAck c block) leaves h = (tt, tt)
of-client (AcceptAcquire c block) leaves h = absurd leaves
of-client (SendProbe c block cap) leaves h = absurd leaves
of-client (TakeC c block) leaves h = (tt, tt)
of-client (SendGrant c block) leaves h = absurd leaves
of-client (TakeGrantAck c block) leaves h = absurd leaves
of-client (SendGet block) leaves h = absurd leaves
of-client (Serve block) leaves h = (tt, tt)
of-client (TakeData block) leaves h = cc
of-client (Drop block) leaves h = absurd leaves
of-client (SendPut block) leaves h = absurd leaves
of-client (TakePutAck block) leaves h = absurd leaves

-- each layer holds of every block what the event leaves
follow-next : (v : View) (old new : Layers) (e : Event) (c : ℕ) (k : Client) → Means v old → ClientStep v e c k
    → LayersFollow v e c k old new → NextLayers v e old new
follow-next v old new e c k m step follow =
    let g : Numbers = v.geometry in
    let shape = shape_of g in
    let image : List ℕ = v.image in
    let log : List Event = v.log in
    let block : ℕ = block_of shape e in
    let then : end_at (next_view v e v.room v.registers v.ways) ≡ block_next v e = blocks-next v e v.room v.registers v.ways in
    let same : (y : ℕ) → SameHome (end_of shape image log y) (end_of shape image (log ++ e ∷ []) y) =
    home-append shape image log e (every_such_event_leaves_home shape (end_at v block) e step.leaves) in
    record {
      lanes = λ x l h. follow.lanes x l;
      copies = λ x y h l.
          follow.copies x y ∙ ap (λ (o : Option Held). cond (is_cell c block x y) (entry_of k) o) (m.copies x y h l)
          ∙ if-entry (is_cell c block x y) k (client_at v x y)
          ∙ ap entry_of (sym (client-append shape image log e c k step.client x y))
          ∙ ap (λ (t : ℕ → Block). entry_of ((t y).client x)) then;
      home = λ y o.
          subst (λ (home : HomeState). IsHomeOf home y (block_next v e y)) (sym follow.home)
          (subst (λ (t : ℕ → Block). IsHomeOf old.home y (t y)) then
          (home-stays old.home y (end_of shape image log y) (end_of shape image (log ++ e ∷ []) y) (m.home y o) (same y)
          (λ x. field-append (λ (k : Client). k.recorded) shape image log e c k step.client step.recorded x y)));
      quiet = λ y no. ap (λ (home : HomeState). outward_in home y) follow.home;
      links_size = follow.links_size;
      copies_size = follow.copies_size;
      home_bank = record { geometry = ap geometry_in follow.home; bank = ap bank_in follow.home };
      limit = follow.limit;
      clock = follow.clock;
    }

-- an event of one client, which the layers follow, keeps the bank
pub means-step : (v : View) (old new : Layers) (e : Event) (c : ℕ) (k : Client) (room : ℕ)
    → Means v old → ClientStep v e c k → LayersFollow v e c k old new
    → Means (record v { log = v.log ++ e ∷ []; room = room }) new
means-step v old new e c k room m step follow =
    let steady = bank-steady v old m in
    let quiet = of-client e step.leaves_registers step.leaves in
    means-next v old new e room v.registers v.ways m
    (record { may = step.may; first = step.first; here = step.here; later = step.later }) (follow-next v old new e c k m step follow)
    (fit-stays v e room v.ways steady step.leaves_registers m.registers)
    (ways-stay v e room v.registers v.ways old.home new.home steady quiet.0 quiet.1 (same-work v.registers)
    (record {
      ways = λ b. ap (λ (home : HomeState). way_in home b) follow.home;
      free = λ set way. ap (λ (home : HomeState). free_at home set way) follow.home;
      orders = λ set. ap (λ (home : HomeState). order_at home set) follow.home;
    })
    (λ b l. m.ways.shown b l ∙ ap (λ (home : HomeState). way_in home b) (sym follow.home)) m.ways)
