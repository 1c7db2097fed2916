use Rattle.std.proofs.Common.{◌≡◌, ℕ, ◌+◌, [], ◌∷◌, ◌++◌, Option, None, sym, ◌∙◌, ap, subst, arith}
use Rattle.tl_types.specs.declared.channel.Channel.TheVariants.{A}
use Rattle.tl_types.specs.declared.permission.Grow.{Grow}
use Rattle.tl_types.specs.declared.ticket.Ticket.{Ticket}
use Rattle.tl_map.specs.Places.{set_of}
use Rattle.tl_protocol.specs.declared.event.Event.TheVariants.{AcceptAcquire}
use Rattle.tl_registers.specs.Register.{acquire_task, opened}
use Rattle.tl_registers.specs.declared.register.Register.{Register}
use Rattle.tl_registers.specs.declared.way_of_set.WayOfSet.{WayOfSet}
use Rattle.tl_bank_spec.specs.Cases.{block_named}
use Rattle.tl_bank_spec.specs.HomeCalls.{accept_cases}
use Rattle.tl_bank_spec.specs.Refusal.{first_of}
use Rattle.tl_bank_spec.specs.View.{View}
use Rattle.tl_bank_spec.specs.Own.{way_at}
use Rattle.tl_bank_spec.specs.Ways.{victim_of_way, way_in_set}
use Rattle.tl_bank_laws.specs.Layers.{Layers}
use Rattle.tl_bank_laws.specs.Means.{Means}
use Rattle.tl_bank_laws.proofs.Accepts.{Accepting, Asked, accept-asked, accept-head, accept-keeps, accepting}
use Rattle.tl_bank_laws.proofs.Opens.{opened_view}
use Rattle.tl_bank_laws.proofs.Serves.{serves-next}
use Rattle.tl_bank.specs.Shown.{shown, layers}
use Rattle.tl_bank.proofs.bank.Bank.accept.Goals as goal

-- the Acquire that is accepted, once there is room for the event
asked-with-room : (v old : View) (h : Layers) (t : Ticket) (room : ℕ) → Means v h → v ≡ record old { room = room }
    → first_of (accept_cases old t) ≡ None → Asked (record old { room = room }) t
asked-with-room v old h t room m made none =
    let Allowed : View → Type 0 = λ w. first_of (accept_cases w t) ≡ None in
    subst (λ (w : View). Asked w t) made (accept-asked v h t m (subst Allowed (sym made) none))

pub discard-requires : goal.discard-requires
discard-requires c =
    let Allowed : View → Type 0 = λ w. first_of (accept_cases w c.args.ticket) ≡ None in
    let allowed : Allowed (shown c.self.inside) =
    subst Allowed (sym (c.self.view_is ∙ c.make_room.ensures.same)) c.in_ok-asked.ensures.permitted in
    accept-head (shown c.self.inside) (layers c.self.inside) c.args.ticket c.self.invariant allowed

pub invariant_of-self : goal.invariant_of-self
invariant_of-self c =
    let v : View = shown c.self.inside in
    let h : Layers = layers c.self.inside in
    let t : Ticket = c.args.ticket in
    let block : ℕ = c.in_ok-asked.asked.block in
    let grow : Grow = c.in_ok-asked.asked.grow in
    let way : ℕ = c.in_ok-asked.asked.opening.way.way in
    let victim : Option ℕ = c.in_ok-asked.asked.opening.victim in
    let old : View = c.args.self.now in
    let made : v ≡ record old { room = c.make_room.new.self.room } = c.self.view_is ∙ c.make_room.ensures.same in
    let none : first_of (accept_cases old t) ≡ None = c.in_ok-asked.ensures.permitted in
    let asked : Asked (record old { room = c.make_room.new.self.room }) t =
    asked-with-room v old h t c.make_room.new.self.room c.self.invariant made none in
    let Shows : View → Type 0 = λ w. Accepting w t block grow way victim in
    let shows : Shows v =
    subst Shows (sym made)
    (record {
      allowed = none;
      block_is = c.in_ok-asked.ensures.block;
      asked = asked;
      grow_is = c.in_ok-asked.ensures.grow (block_named old t A) asked.grow asked.waits asked.first;
      way_is = c.in_ok-asked.ensures.way;
      victim_is = c.in_ok-asked.ensures.victim;
    }) in
    let Held : View → Type 0 = λ w. c.in_ok-asked.asked.opening.way ≡ way_in_set (set_of w.geometry block) way in
    let held : Held v = subst Held (sym made) (ap (λ (set : ℕ). way_in_set set way) c.in_ok-asked.ensures.set) in
    let Result : WayOfSet → Type 0 = λ x.
    Means (opened_view v (v.log ++ AcceptAcquire t.client block ∷ []) c.append.new.self.room
    (opened block x (acquire_task (record { client = t.client; grow = grow }) victim)))
    (record h { links = c.discard.new.links }) in
    rw (c.append.ensures.events, c.append.ensures.forgotten, c.open_acquire.ensures)
    (subst Result (sym held)
    (accept-keeps v h t block grow way victim c.append.new.self.room c.discard.new.links c.self.invariant shows c.discard.ensures.same
    c.discard.ensures.after))

pub returns-clause-accepts : goal.returns-clause-accepts
returns-clause-accepts c =
    let v : View = shown c.self.inside in
    let old : View = c.args.self.now in
    let t : Ticket = c.args.ticket in
    let block : ℕ = block_named old t A in
    let way : ℕ = c.in_ok-asked.asked.opening.way.way in
    let grow : Grow = c.in_ok-asked.asked.grow in
    let between : View = record old { room = c.make_room.new.self.room } in
    let made : v ≡ between = c.self.view_is ∙ c.make_room.ensures.same in
    let none : first_of (accept_cases old t) ≡ None = c.in_ok-asked.ensures.permitted in
    let asked : Asked between t = asked-with-room v old (layers c.self.inside) t between.room c.self.invariant made none in
    let same : grow ≡ asked.grow = c.in_ok-asked.ensures.grow block asked.grow asked.waits asked.first in
    let block_is : c.in_ok-asked.asked.block ≡ block = c.in_ok-asked.ensures.block in
    let held : c.in_ok-asked.asked.opening.way ≡ way_in_set (set_of old.geometry c.in_ok-asked.asked.block) way =
    ap (λ (set : ℕ). way_in_set set way) c.in_ok-asked.ensures.set in
    let way_is = c.in_ok-asked.ensures.way in
    let opens : Register = accepting old t block grow way (victim_of_way old (set_of old.geometry block) (way_at old block) way) in
    let left : c.append.new.self.room + 1 ≡ c.self.inside.log.room = c.append.ensures.room in
    let was : c.self.inside.log.room ≡ c.make_room.new.self.room = ap (λ (w : View). w.room) made in
    record {
      grow = grow;
      rest = asked.waits;
      first = rw same asked.first;
      way = way;
      is_way = rw block_is at way_is;
      serves =
          rw (c.append.ensures.events, c.append.ensures.forgotten, c.open_acquire.ensures, held, c.in_ok-asked.ensures.victim, block_is)
          (serves-next old v (AcceptAcquire t.client block) between.room c.append.new.self.room (v.registers ++ opens ∷ [])
          (old.registers ++ opens ∷ []) v.ways (way_at old) made c.make_room.ensures.grows (omega (arith, left, was))
          (ap (λ (w : View). w.registers ++ opens ∷ []) made) (λ b. ap (λ (w : View). way_at w b) made));
    }
