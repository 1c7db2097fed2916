-- What an action that a register has to do next shows of the bank.
use Rattle.std.proofs.Common.{◌≡◌, ℕ, ◌+◌, ◌<◌, ◌≤◌, ◌==◌, ◌||◌, Bool, true, false, List, [], ◌∷◌, ◌++◌, Option, Some, None, refl, sym, ◌∙◌, ap, subst, arith, inl, inr, eqb-true, eq-eqb}
use Rattle.std.specs.List.{AllByRecursion}
use Rattle.std.proofs.Math.Bool.{or-true}
use Rattle.std.proofs.lemmas.Bool.{cases_Bool}
use Rattle.std.specs.Prelude.{slice_index_or}
use Rattle.tl_types.specs.declared.limits.TheConstants.{CLIENTS}
use Rattle.tl_types.specs.Lane.{Lane, sent}
use Rattle.tl_types.specs.declared.ticket.Ticket.{Ticket}
use Rattle.tl_types.specs.declared.channel.Channel.{Channel}
use Rattle.tl_types.specs.declared.channel.Channel.TheVariants.{B, D}
use Rattle.tl_map.specs.Limits.{most_clients}
use Rattle.tl_map.specs.Places.{bank_of}
use Rattle.tl_types.specs.declared.permission.ProbeCap.{ProbeCap}
use Rattle.tl_protocol.specs.declared.shape.Shape.{Shape}
use Rattle.tl_protocol.specs.declared.event.Event.{Event}
use Rattle.tl_protocol.specs.Protocol.{block_of}
use Rattle.tl_protocol.specs.Runs.{MayNext}
use Rattle.tl_links.specs.Table.{lane_in}
use Rattle.tl_registers.specs.Agree.{IsOf, IsToProbe}
use Rattle.tl_registers.specs.Fit.{Fits, event_of}
use Rattle.tl_registers.specs.NextAction.{next_due}
use Rattle.tl_registers.specs.Register.{is_block, victim_in, victim_of, works_on}
use Rattle.tl_registers.specs.Registers.{due_of, register_of}
use Rattle.tl_registers.specs.declared.due.Due.{Due}
use Rattle.tl_registers.specs.declared.due.Due.TheVariants.{Probe, Grant, Get, Put, Drop}
use Rattle.tl_registers.specs.declared.register.Register.{Register}
use Rattle.tl_registers.specs.declared.register.Task.{Task}
use Rattle.tl_registers.specs.declared.register.Task.TheVariants.{Acquire, Replace, Evict}
use Rattle.tl_registers.proofs.Actions.{every-action-is-of-its-register}
use Rattle.tl_registers.proofs.Permitted.{every-action-is-permitted}
use Rattle.tl_bank_spec.specs.Effects.{Advances, action_of, registers_after, ways_after}
use Rattle.tl_bank_spec.specs.HomeCalls.{advance_cases}
use Rattle.tl_bank_spec.specs.Cases.{link_full}
use Rattle.tl_bank_spec.specs.HomeCases.{due_at, due_full}
use Rattle.tl_bank_spec.specs.Refusal.{first_of}
use Rattle.tl_bank_spec.specs.View.{View, end_at, shape_of}
use Rattle.tl_bank_spec.specs.Own.{IsOwn, way_at}
use Rattle.tl_bank_spec.specs.Channels.{next_ticket}
use Rattle.tl_bank_spec.specs.declared.action.Action.{Action}
use Rattle.tl_bank_laws.specs.Layers.{Layers}
use Rattle.tl_bank_laws.specs.Means.{HoldsWay, Means}
use Rattle.tl_bank_laws.proofs.Allowed.{AllFalse, all-false, block-is, here-is}
use Rattle.tl_bank_laws.proofs.Ways.{bank-steady}

-- ## The register of a block

-- it is of that block
pub found-own : (own : ℕ) (xs : List Register) (r : Register) → register_of own xs ≡ Some r → r.own ≡ own
found-own own [] r h = cc
found-own own (q ∷ rest) r h =
    elim (cases_Bool (q.own == own)) [
      | inl e ↦
          let h2 : Some q ≡ Some r = (rw e at h) in
          let same : q ≡ r = cc in
          ap (λ (x : Register). x.own) (sym same) ∙ eqb-true q.own own e
      | inr e ↦ let h2 : register_of own rest ≡ Some r = (rw e at h) in found-own own rest r h2
    ]

-- and one of which all holds that holds of each
pub found-each : (P : Register → Type 0) (own : ℕ) (xs : List Register) (r : Register) → AllByRecursion P xs → register_of own xs ≡ Some r → P r
found-each P own [] r each h = cc
found-each P own (q ∷ rest) r each h =
    elim (cases_Bool (q.own == own)) [
      | inl e ↦
          let h2 : Some q ≡ Some r = (rw e at h) in
          let same : q ≡ r = cc in
          subst P same each.0
      | inr e ↦ let h2 : register_of own rest ≡ Some r = (rw e at h) in found-each P own rest r each.1 h2
    ]

-- ## The block of an action

-- a register works on its own block
own-works : (own : ℕ) (t : Bool) → ((own == own) || t) ≡ true
own-works own t = let same : (own == own) ≡ true = eq-eqb own own refl in rw same refl

-- and on its victim
victim-works : (own block : ℕ) (victim : Option ℕ) → victim ≡ Some block → ((own == block) || is_block block victim) ≡ true
victim-works own block victim h =
    let same : (block == block) ≡ true = eq-eqb block block refl in
    rw (h, same) (or-true (own == block))

-- a register works on the block that it is to probe
to-probe-works : (r : Register) (task : Task) (block : ℕ) (cap : ProbeCap) → r.task ≡ task → IsToProbe r task block cap → works_on r block ≡ true
to-probe-works r (Acquire acquire) block cap is h = rw h.0 (own-works r.own (is_block r.own (victim_of r)))
to-probe-works r (Replace acquire victim) block cap is h =
    victim-works r.own block (victim_of r)
    (ap (λ (t : Task). victim_in r.own t) is ∙ ap (λ (n : ℕ). Some n) (sym h.0))
to-probe-works r Evict block cap is h = rw h.0 (own-works r.own (is_block r.own (victim_of r)))

-- a register works on the block of its action
pub event-works : (shape : Shape) (r : Register) (due : Due) → IsOf r due → works_on r (block_of shape (event_of r.own due)) ≡ true
event-works shape r (Probe c block cap) h = to-probe-works r r.task block cap refl h
event-works shape r (Grant c) h = own-works r.own (is_block r.own (victim_of r))
event-works shape r Get h = own-works r.own (is_block r.own (victim_of r))
event-works shape r (Put block) h = victim-works r.own block (victim_of r) h
event-works shape r (Drop block) h = victim-works r.own block (victim_of r) h

-- ## An action that is due

-- the register of a block has this to do next, and may
pub record Acts (v : View) (own : ℕ) (due : Due) : Type 0 where
  pub is_own : IsOwn v.geometry v.number own
  pub register : Register
  pub found : register_of own v.registers ≡ Some register
  pub here : register.own ≡ own
  pub next : next_due (shape_of v.geometry) (end_at v) register ≡ Some due
  pub fits : Fits (shape_of v.geometry) (end_at v) register
  pub holds : HoldsWay v register
  pub of : IsOf register due
  pub may : MayNext (shape_of v.geometry) (end_at v) (event_of own due)
  pub bank : bank_of v.geometry (block_of (shape_of v.geometry) (event_of own due)) ≡ v.number
  pub works : works_on register (block_of (shape_of v.geometry) (event_of own due)) ≡ true

-- the register that was found of a block, where there is one, may do what is due of it
acts-found : (v : View) (h : Layers) (own : ℕ) (due : Due) (o : Option Register) → Means v h → IsOwn v.geometry v.number own
    → register_of own v.registers ≡ o → due_of (shape_of v.geometry) (end_at v) o ≡ Some due → Acts v own due
acts-found v h own due None m is_own found is = cc
acts-found v h own due (Some r) m is_own found is =
    let shape = shape_of v.geometry in
    let here : r.own ≡ own = found-own own v.registers r found in
    let fits : Fits shape (end_at v) r = found-each (Fits shape (end_at v)) own v.registers r m.registers.agree.fits found in
    let holds : HoldsWay v r = found-each (HoldsWay v) own v.registers r m.ways.held found in
    let of : IsOf r due = every-action-is-of-its-register shape (end_at v) r due is in
    let may : MayNext shape (end_at v) (event_of r.own due) =
    every-action-is-permitted shape (end_at v) r due (bank-steady v h m).service fits is in
    let works : works_on r (block_of shape (event_of own due)) ≡ true =
    subst (λ (n : ℕ). works_on r (block_of shape (event_of n due)) ≡ true) here (event-works shape r due of) in
    record {
      is_own = is_own;
      register = r;
      found = found;
      here = here;
      next = is;
      fits = fits;
      holds = holds;
      of = of;
      may = subst (λ (n : ℕ). MayNext shape (end_at v) (event_of n due)) here may;
      bank = (holds.own (block_of shape (event_of own due)) works).0.1;
      works = works;
    }

-- what is due of a block of the bank is permitted
pub acts-of : (v : View) (h : Layers) (own : ℕ) (due : Due) → Means v h → IsOwn v.geometry v.number own → due_at v own ≡ Some due
    → Acts v own due
acts-of v h own due m is_own is = acts-found v h own due (register_of own v.registers) m is_own refl is

-- where no refusal's case holds, the block is of the bank
pub advance-own : (v : View) (own : ℕ) → first_of (advance_cases v own) ≡ None → IsOwn v.geometry v.number own
advance-own v own none =
    let f : AllFalse (advance_cases v own) = all-false (advance_cases v own) none in
    (block-is v own f.0, here-is v own f.1.0)

-- and the channel of what is due is not full
pub advance-free : (v : View) (own : ℕ) → first_of (advance_cases v own) ≡ None → due_full v (due_at v own) ≡ false
advance-free v own none =
    let f : AllFalse (advance_cases v own) = all-false (advance_cases v own) none in f.1.1.1.0

-- ## What a call leaves

-- what is due in a view is due in the bank that shows it
pub acts-at : (v old : View) (h : Layers) (own : ℕ) (due : Due) → Means v h → v ≡ old → first_of (advance_cases old own) ≡ None
    → due_at old own ≡ Some due → Acts v own due
acts-at v old h own due m same none is =
    acts-of v h own due m (advance-own v own (subst (λ (w : View). first_of (advance_cases w own) ≡ None) (sym same) none))
    (subst (λ (w : View). due_at w own ≡ Some due) (sym same) is)

-- the event, the registers and the ways that an action leaves
pub advances-at : (v old : View) (own : ℕ) (due : Due) (action : Action) (log : List Event) (room : ℕ) (ways : List (Option ℕ))
    → v ≡ old → due_at old own ≡ Some due → log ≡ v.log ++ event_of own due ∷ [] → v.room ≤ room + 1
    → ((b : ℕ) → slice_index_or ways b None ≡ ways_after due (way_at v) b) → action ≡ action_of v due
    → Advances old (record v { log = log; room = room; registers = registers_after own due v.registers; ways = ways }) own action
advances-at v old own due action log room ways same is grows left lies answer =
    let new : View = record v { log = log; room = room; registers = registers_after own due v.registers; ways = ways } in
    subst (λ (w : View). due_at w own ≡ Some due → Advances w new own action) same
    (λ is_due. record {
      due = due;
      is_due = is_due;
      serves = record {
        is = ap (λ (l : List Event). record v { log = l; room = room; registers = registers_after own due v.registers; ways = ways }) grows;
        room = left;
        ways = lies;
      };
      answer = answer;
    })
    is

-- an action of a bank with more room is one of the bank
pub advances-from : (old new : View) (own room : ℕ) (action : Action) → old.room ≤ room
    → Advances (record old { room = room }) new own action → Advances old new own action
advances-from old new own room action more a = record {
  due = a.due;
  is_due = a.is_due;
  serves = record { is = a.serves.is; room = let left = a.serves.room in omega (arith, more, left); ways = a.serves.ways };
  answer = a.answer;
}

-- the ticket of the next message of a lane
abbrev ticket-with : ℕ → ℕ → Channel → Lane → Ticket
ticket-with bank c k lane = record { bank = bank; client = c; channel = k; serial = sent lane }

-- the ticket of a message that is sent
pub ticket-is : (v : View) (h : Layers) (c : ℕ) (k : Channel) → Means v h → c < v.geometry.clients
    → record { bank = h.links.bank; client = c; channel = k; serial = sent (lane_in h.links c k) } ≡ next_ticket v c k
ticket-is v h c k m l =
    ap (λ (b : ℕ). ticket-with b c k (lane_in h.links c k)) m.links_bank
    ∙ ap (λ (lane : Lane). ticket-with v.number c k lane) (m.lanes c k l)

-- what is due of a block of the bank, in a bank that shows the view
pub acts-within : (v old : View) (h : Layers) (own : ℕ) (due : Due) → Means v h → v ≡ old → IsOwn old.geometry old.number own
    → due_at old own ≡ Some due → Acts v own due
acts-within v old h own due m same is_own is =
    acts-of v h own due m (subst (λ (w : View). IsOwn w.geometry w.number own) (sym same) is_own)
    (subst (λ (w : View). due_at w own ≡ Some due) (sym same) is)

-- the channel of a Probe that is due is not full
pub probe-free : (v old : View) (own c block : ℕ) (cap : ProbeCap) → v ≡ old → first_of (advance_cases old own) ≡ None
    → due_at old own ≡ Some (Probe c block cap) → link_full v c B ≡ false
probe-free v old own c block cap same none is =
    subst (λ (w : View). link_full w c B ≡ false) (sym same)
    (sym (ap (due_full old) is) ∙ advance-free old own none)

-- nor is that of a Grant
pub grant-free : (v old : View) (own c : ℕ) → v ≡ old → first_of (advance_cases old own) ≡ None
    → due_at old own ≡ Some (Grant c) → link_full v c D ≡ false
grant-free v old own c same none is =
    subst (λ (w : View). link_full w c D ≡ false) (sym same)
    (sym (ap (due_full old) is) ∙ advance-free old own none)

-- there are at most sixteen clients
most-few : (version n : ℕ) → n ≤ most_clients version → n ≤ CLIENTS
most-few version n h =
    elim (cases_Bool (version == 1)) [
      | inl t ↦ let k : n ≤ 8 = (rw t at h) in omega (arith, k)
      | inr t ↦ (rw t at h)
    ]

-- so each client's number is below sixteen
pub client-few : (v : View) (h : Layers) (c : ℕ) → Means v h → c < v.geometry.clients → c < CLIENTS
client-few v h c m l =
    let k = most-few v.geometry.version v.geometry.clients m.geometry.clients.most in omega (arith, k, l)
