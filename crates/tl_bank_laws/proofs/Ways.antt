-- What an event that moves no block and opens or closes no register leaves of the registers and of the ways that they hold.
use Rattle.std.proofs.Common.{◌≡◌, ℕ, ◌<◌, ◌==◌, ◌&&◌, ◌||◌, Bool, true, false, List, [], ◌∷◌, Option, None, is_none, if◌then◌else◌, refl, sym, ◌∙◌, ap, subst, inl, inr}
use Rattle.std.specs.List.{AllByRecursion}
use Rattle.tl_types.proofs.Booleans.{or-else}
use Rattle.std.proofs.Math.Bool.{or-true}
use Rattle.std.proofs.lemmas.Bool.{and_parts, cases_Bool, not-true}
use Rattle.std.specs.Prelude.{slice_index_or}
use Rattle.std.specs.List.{list_any}
use Rattle.tl_map.specs.Places.{bank_of, set_of}
use Rattle.tl_protocol.specs.Protocol.{Block}
use Rattle.tl_protocol.specs.declared.event.Event.{Event}
use Rattle.tl_registers.specs.Agree.{IsSteady, LeavesRegisters}
use Rattle.tl_registers.specs.Pending.{grant_pending}
use Rattle.tl_registers.specs.Register.{is_block, victim_in, works_on, with_probed}
use Rattle.tl_registers.specs.Registers.{is_held, noted}
use Rattle.tl_registers.specs.VictimWay.{IsInOrder}
use Rattle.tl_registers.specs.declared.register.Register.{Register}
use Rattle.tl_registers.specs.declared.register.Task.{Task}
use Rattle.tl_registers.specs.declared.way_of_set.WayOfSet.{WayOfSet}
use Rattle.tl_registers.proofs.Agreement.{events-leave-registers, every-run-is-steady}
use Rattle.tl_bank_home.specs.Homes.{HomeState, SameWays, order_at, way_in}
use Rattle.tl_bank_spec.specs.View.{View, shape_of, end_at}
use Rattle.tl_bank_spec.specs.Own.{way_at}
use Rattle.tl_bank_spec.specs.Ways.{is_in_way, lies_in, slot_at, slots_at}
use Rattle.tl_bank_laws.specs.Layers.{Layers}
use Rattle.tl_bank_laws.specs.Means.{HoldsWay, Means, RegistersFit, WaysApart, WaysFit, is_filling, is_filling_by}
use Rattle.tl_bank_laws.proofs.Next.{next_view, blocks-next, registers-next}
use Rattle.tl_bank_laws.proofs.Orders.{GrantsNothing, order-next}
use Rattle.tl_bank_laws.proofs.Pending.{HoldsOn, home-holds-on, no-grant-comes}
use Rattle.tl_bank_laws.proofs.Slots.{slot-same, slots-same}

-- ## The registers

-- each block of a bank is as every run keeps it
pub bank-steady : (v : View) (layers : Layers) → Means v layers → IsSteady (shape_of v.geometry) (end_at v)
bank-steady v layers m = every-run-is-steady (shape_of v.geometry) v.image v.log m.lawful.run

-- An event that leaves the registers as they are leaves them fit.
pub fit-stays : (v : View) (e : Event) (room : ℕ) (ways : List (Option ℕ)) → IsSteady (shape_of v.geometry) (end_at v)
    → LeavesRegisters e → RegistersFit v → RegistersFit (next_view v e room v.registers ways)
fit-stays v e room ways steady leaves fit =
    registers-next v e room v.registers ways
    (events-leave-registers (shape_of v.geometry) (end_at v) v.registers e leaves steady fit.agree) fit.few

-- ## Registers of the same work

-- one for one they work on the same blocks, for the same, and hold the same ways
abbrev pub SameWork : List Register → List Register → Type 0
SameWork [] [] = Unit {0}
SameWork [] (q ∷ more) = ⊥
SameWork (r ∷ rest) [] = ⊥
SameWork (r ∷ rest) (q ∷ more) = (q.own ≡ r.own) × (q.way ≡ r.way) × (q.task ≡ r.task) × SameWork rest more

-- the same registers are of the same work
pub same-work : (registers : List Register) → SameWork registers registers
same-work [] = tt
same-work (r ∷ rest) = (refl, refl, refl, same-work rest)

-- a register that notes a Probe, or does not, keeps its own block, its way and its task
with-probe : (c : ℕ) (r : Register) (t : Bool)
    → ((if t then with_probed r c else r).own ≡ r.own) × ((if t then with_probed r c else r).way ≡ r.way)
    × ((if t then with_probed r c else r).task ≡ r.task)
with-probe c r true = (refl, refl, refl)
with-probe c r false = (refl, refl, refl)

-- a Probe that is noted leaves the registers' work
pub noted-work : (block c : ℕ) (registers : List Register) → SameWork registers (noted block c registers)
noted-work block c [] = tt
noted-work block c (r ∷ rest) =
    let k = with-probe c r (r.own == block) in (k.0, k.1, k.2, noted-work block c rest)

-- registers of one own block and one task work on the same blocks
works-same : (r q : Register) (b : ℕ) → q.own ≡ r.own → q.task ≡ r.task → works_on q b ≡ works_on r b
works-same r q b own task =
    ap (λ (n : ℕ). (n == b) || is_block b (victim_in n q.task)) own
    ∙ ap (λ (t : Task). (r.own == b) || is_block b (victim_in r.own t)) task

-- registers of the same work hold the same ways
pub held-same : (way : WayOfSet) (xs ys : List Register) → SameWork xs ys → is_held way ys ≡ is_held way xs
held-same way [] [] h = refl
held-same way [] (q ∷ more) h = absurd h
held-same way (r ∷ rest) [] h = absurd h
held-same way (r ∷ rest) (q ∷ more) h =
    ap (λ (w : WayOfSet). ((w.set == way.set) && (w.way == way.way)) || is_held way more) h.1
    ∙ ap (λ (t : Bool). ((r.way.set == way.set) && (r.way.way == way.way)) || t) (held-same way rest more h.3)

-- where no two registers hold one way, no two of those of the same work do
pub apart-same : (xs ys : List Register) → SameWork xs ys → WaysApart xs → WaysApart ys
apart-same [] [] h apart = tt
apart-same [] (q ∷ more) h apart = absurd h
apart-same (r ∷ rest) [] h apart = absurd h
apart-same (r ∷ rest) (q ∷ more) h apart = (
  held-same q.way rest more h.3 ∙ ap (λ (w : WayOfSet). is_held w rest) h.1 ∙ apart.0,
  apart-same rest more h.3 apart.1,
)

-- ## The ways

-- the blocks of the bank lie in the ways of a list as in the view
abbrev pub SameLies : View → List (Option ℕ) → Type 0
SameLies v ways = (b : ℕ) → b < v.geometry.memory_blocks → slice_index_or ways b None ≡ way_at v b

-- a view with another log, and other registers, has the same in each way
pub lies-stay : (v : View) (log : List Event) (room : ℕ) (registers : List Register) (ways : List (Option ℕ)) → SameLies v ways
    → (set way b : ℕ) → b < v.geometry.memory_blocks
    → lies_in (record v { log = log; room = room; registers = registers; ways = ways }) set way b ≡ lies_in v set way b
lies-stay v log room registers ways same set way b l =
    ap (λ (o : Option ℕ). (bank_of v.geometry b == v.number) && ((set_of v.geometry b == set) && is_in_way way o)) (same b l)

-- so the same block is in a way of a set
pub slot-stays : (v : View) (log : List Event) (room : ℕ) (registers : List Register) (ways : List (Option ℕ)) → SameLies v ways
    → (set way : ℕ) → slot_at (record v { log = log; room = room; registers = registers; ways = ways }) set way ≡ slot_at v set way
slot-stays v log room registers ways same set way =
    slot-same v (record v { log = log; room = room; registers = registers; ways = ways }) set way refl
    (λ b l. lies-stay v log room registers ways same set way b l)

-- and the same blocks in all ways of a set
pub slots-stay : (v : View) (log : List Event) (room : ℕ) (registers : List Register) (ways : List (Option ℕ)) → SameLies v ways
    → (set : ℕ) → slots_at (record v { log = log; room = room; registers = registers; ways = ways }) set ≡ slots_at v set
slots-stay v log room registers ways same set =
    slots-same v (record v { log = log; room = room; registers = registers; ways = ways }) set refl
    (λ way l. slot-stays v log room registers ways same set way)

-- a register holds its way as one of the same work did
pub holds-stay : (v : View) (log : List Event) (room : ℕ) (registers : List Register) (ways : List (Option ℕ)) (r q : Register)
    → SameLies v ways → q.own ≡ r.own → q.way ≡ r.way → q.task ≡ r.task → HoldsWay v r
    → HoldsWay (record v { log = log; room = room; registers = registers; ways = ways }) q
holds-stay v log room registers ways r q same own way task h =
    let works : (b : ℕ) → works_on q b ≡ works_on r b = λ b. works-same r q b own task in
    record {
      inside = subst (λ (w : WayOfSet). w.way < v.geometry.ways) (sym way) h.inside;
      own = λ b on. let k = h.own b (sym (works b) ∙ on) in (k.0, k.1 ∙ ap (λ (w : WayOfSet). w.set) (sym way));
      lies = λ b w on lies.
          let was = sym (works b) ∙ on in
          h.lies b w was (sym (same b (h.own b was).0.0) ∙ lies) ∙ ap (λ (w : WayOfSet). w.way) (sym way);
      alone = λ b l lies.
          works b
          ∙ h.alone b l
          (sym (lies-stay v log room registers ways same r.way.set r.way.way b l)
          ∙ ap (λ (w : WayOfSet). lies_in (record v { log = log; room = room; registers = registers; ways = ways }) w.set w.way b) (sym way)
          ∙ lies);
    }

-- so does each register of a list of the same work
pub each-holds-stay : (v : View) (log : List Event) (room : ℕ) (registers : List Register) (ways : List (Option ℕ))
    (xs ys : List Register) → SameLies v ways → SameWork xs ys → AllByRecursion (HoldsWay v) xs
    → AllByRecursion (HoldsWay (record v { log = log; room = room; registers = registers; ways = ways })) ys
each-holds-stay v log room registers ways [] [] same work h = tt
each-holds-stay v log room registers ways [] (q ∷ more) same work h = absurd work
each-holds-stay v log room registers ways (r ∷ rest) [] same work h = absurd work
each-holds-stay v log room registers ways (r ∷ rest) (q ∷ more) same work h = (
  holds-stay v log room registers ways r q same work.0 work.1 work.2 h.0,
  each-holds-stay v log room registers ways rest more same work.3 h.1,
)

-- ## Which ways fill

-- of no block is a Grant pending later of which none was before
abbrev pub NoGrantComes : View → View → Type 0
NoGrantComes v t =
    (b : ℕ) → grant_pending (shape_of v.geometry) (end_at v b) ≡ false → grant_pending (shape_of t.geometry) (end_at t b) ≡ false

-- a way that a register fills is filled by one of the same block and way, where no Grant comes
filling-by-follows : (v t : View) (set way : ℕ) (r q : Register) → NoGrantComes v t → q.own ≡ r.own → q.way ≡ r.way
    → is_filling_by v set way r ≡ true → is_filling_by t set way q ≡ true
filling-by-follows v t set way r q none own in_way h =
    let k = and_parts ((r.way.set == set) && (r.way.way == way)) _ h in
    let here : ((q.way.set == set) && (q.way.way == way)) ≡ true =
    ap (λ (w : WayOfSet). (w.set == set) && (w.way == way)) in_way ∙ k.0 in
    let free : grant_pending (shape_of t.geometry) (end_at t q.own) ≡ false =
    ap (λ (n : ℕ). grant_pending (shape_of t.geometry) (end_at t n)) own
    ∙ none r.own (not-true (grant_pending (shape_of v.geometry) (end_at v r.own)) k.1) in
    rw (here, free) refl

-- a way that a register fills is filled on, where no Grant comes
pub filling-follows : (v t : View) (set way : ℕ) (xs ys : List Register) → NoGrantComes v t → SameWork xs ys
    → list_any (is_filling_by v set way) xs ≡ true → list_any (is_filling_by t set way) ys ≡ true
filling-follows v t set way [] [] none work h = cc
filling-follows v t set way [] (q ∷ more) none work h = absurd work
filling-follows v t set way (r ∷ rest) [] none work h = absurd work
filling-follows v t set way (r ∷ rest) (q ∷ more) none work h =
    elim (cases_Bool (is_filling_by v set way r)) [
      | inl e ↦ let now = filling-by-follows v t set way r q none work.0 work.1 e in rw now refl
      | inr e ↦
          let later = filling-follows v t set way rest more none work.3 (or-else (is_filling_by v set way r) _ h e) in
          rw later (or-true (is_filling_by t set way q))
    ]

-- after an event that grants nothing
pub no-grant-next : (v : View) (e : Event) (room : ℕ) (registers : List Register) (ways : List (Option ℕ))
    → IsSteady (shape_of v.geometry) (end_at v) → GrantsNothing e → NoGrantComes v (next_view v e room registers ways)
no-grant-next v e room registers ways steady none b h =
    subst (λ (t : ℕ → Block). grant_pending (shape_of v.geometry) (t b) ≡ false) (sym (blocks-next v e room registers ways))
    (no-grant-comes (shape_of v.geometry) (end_at v) e b steady none h)

-- ## The ways fit on

-- An event that grants nothing and moves no block, and leaves the registers' work and home's ways, leaves the ways fit.
pub ways-stay : (v : View) (e : Event) (room : ℕ) (registers : List Register) (ways : List (Option ℕ)) (old new : HomeState)
    → IsSteady (shape_of v.geometry) (end_at v) → GrantsNothing e → HoldsOn e → SameWork v.registers registers
    → SameWays old new → ((b : ℕ) → b < v.geometry.memory_blocks → slice_index_or ways b None ≡ way_in new b)
    → WaysFit v old → WaysFit (next_view v e room registers ways) new
ways-stay v e room registers ways old new steady none on work stay shown fit =
    let t : View = next_view v e room registers ways in
    let same : SameLies v ways = λ b l. shown b l ∙ stay.ways b ∙ sym (fit.shown b l) in
    record {
      shown = shown;
      inside = λ b w own lies. fit.inside b w own (sym (same b own.0) ∙ lies);
      once = λ a b w own_a own_b set_ab lies_a lies_b.
          fit.once a b w own_a own_b set_ab (sym (same a own_a.0) ∙ lies_a) (sym (same b own_b.0) ∙ lies_b);
      holds = λ b own.
          ap (λ (s : ℕ → Block). is_none (s b).home) (blocks-next v e room registers ways)
          ∙ home-holds-on (shape_of v.geometry) (end_at v) e b steady on
          ∙ fit.holds b own ∙ ap (λ (o : Option ℕ). is_none o) (sym (same b own.0));
      free = λ set way l k.
          stay.free set way ∙ fit.free set way l k
          ∙ ap (λ (o : Option ℕ). is_none o) (sym (slot-stays v t.log room registers ways same set way));
      held = each-holds-stay v t.log room registers ways v.registers registers same work fit.held;
      apart = apart-same v.registers registers work fit.apart;
      orders = λ set l.
          subst (λ (slots : List (Option ℕ)). IsInOrder slots (is_filling t set) t.log (order_at new set))
          (sym (slots-stay v t.log room registers ways same set))
          (subst (λ (order : List ℕ). IsInOrder (slots_at v set) (is_filling t set) t.log order) (sym (stay.orders set))
          (order-next (slots_at v set) (is_filling v set) (is_filling t set) v.log (order_at old set) e none
          (λ way block here h.
          filling-follows v t set way v.registers registers (no-grant-next v e room registers ways steady none) work h)
          (fit.orders set l)));
    }
