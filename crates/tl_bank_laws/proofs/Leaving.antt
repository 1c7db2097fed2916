-- A block leaves home: it is dropped, or put back to the memory.
use Rattle.std.proofs.Common.{◌≡◌, ◌≢◌, ℕ, ◌<◌, ◌≤◌, ◌==◌, ◌&&◌, Bool, true, false, List, Option, Some, None, is_none, if◌then◌else◌, refl, sym, ◌∙◌, ap, subst, arith, inl, inr, eqb-true, eq-eqb}
use Rattle.std.specs.Prelude.{IsSome, slice_index_or}
use Rattle.std.proofs.lemmas.Bool.{cases_lt, and_parts, cases_Bool}
use Rattle.tl_types.proofs.Lowest.{none-lowest}
use Rattle.tl_types.specs.declared.permission.Perm.TheVariants.{None as p_None}
use Rattle.tl_map.specs.Places.{set_of}
use Rattle.tl_protocol.specs.Protocol.{Block, Idle, MayGiveUp, home_bytes}
use Rattle.tl_protocol.specs.Pending.{IsServiceAt}
use Rattle.tl_protocol.specs.declared.client.Client.{Client}
use Rattle.tl_protocol.specs.declared.event.Event.{Event}
use Rattle.tl_protocol.specs.declared.event.Event.TheVariants.{Drop as e_Drop, SendPut}
use Rattle.tl_protocol.specs.declared.home.Line.{Line}
use Rattle.tl_protocol.specs.declared.home.Outward.TheVariants.{Quiet, Put as o_Put}
use Rattle.tl_protocol.specs.declared.shape.Shape.{Shape}
use Rattle.tl_bank_home.specs.Directories.{is_way as is_home_way}
use Rattle.tl_bank_home.specs.Homes.{EachHasHolder, HomeState, SameBank, SameMemory, SameOutward, free_at, geometry_in, line_in, order_at, outward_in, recorded_in, way_in}
use Rattle.tl_registers.specs.Agree.{IsSteady}
use Rattle.tl_registers.specs.Register.{works_on}
use Rattle.tl_registers.specs.Registers.{ended, is_busy, register_of}
use Rattle.tl_registers.specs.VictimWay.{IsInOrder}
use Rattle.tl_registers.specs.declared.due.Due.TheVariants.{Put, Drop}
use Rattle.tl_registers.specs.declared.register.Register.{Register}
use Rattle.tl_registers.proofs.Closing.{dropping-keeps-agreement, putting-keeps-agreement}
use Rattle.tl_registers.proofs.Order.{other-events-keep-order}
use Rattle.tl_registers.proofs.Tables.{each-follows, found-busy}
use Rattle.tl_bank_spec.specs.Effects.{ways_without}
use Rattle.tl_bank_spec.specs.View.{View, end_at, shape_of}
use Rattle.tl_bank_spec.specs.Own.{IsOwn, way_at, ways_below}
use Rattle.tl_bank_spec.specs.Ways.{lies_in, slot_at, slots_at}
use Rattle.tl_bank_laws.specs.Layers.{Layers}
use Rattle.tl_bank_laws.specs.Means.{HoldsWay, IsHomeOf, Means, WaysFit, is_filling}
use Rattle.tl_bank_laws.proofs.Crossed.{crossings-few}
use Rattle.tl_bank_laws.proofs.Dues.{Acts}
use Rattle.tl_bank_laws.proofs.Moves.{at-block, at-other}
use Rattle.tl_bank_laws.proofs.Next.{block_next, blocks-next, means-next, next_view, registers-next}
use Rattle.tl_bank_laws.proofs.Orders.{GrantsNothing, grants-none, order-transfers}
use Rattle.tl_bank_laws.proofs.Pointwise.{each-next, entries-next, here, homes-next, left, quiet-next}
use Rattle.tl_bank_laws.proofs.Slots.{below-at, below-past, lies-slot, lies-true, slot-lies, slot-same, slots-in, slots-length, slots-some, true-lies}
use Rattle.tl_bank_laws.proofs.TakesPutAck.{ended-few, ended-fits}
use Rattle.tl_bank_laws.proofs.Ways.{bank-steady, filling-follows, no-grant-next, same-work}

-- what became of home
pub record GaveUp (old new : HomeState) (block : ℕ) : Type 0 where
  pub bank : SameBank old new
  pub lines : (b : ℕ) → line_in new b ≡ (if b == block then None else line_in old b)
  pub recorded : (c b : ℕ) → recorded_in new c b ≡ (if b == block then p_None else recorded_in old c b)
  pub ways : (b : ℕ) → way_in new b ≡ (if b == block then None else way_in old b)
  pub free :
      (set way : ℕ) → free_at new set way
      ≡ (if set == set_of (geometry_in old) block && is_home_way (way_in old block) way then true else free_at old set way)
  pub orders : (set : ℕ) → order_at new set ≡ order_at old set
  pub memory : SameMemory old new

-- ## The ways

-- where the blocks of the bank lie once one of them has left its way
pub record LeftWay (v : View) (ways : List (Option ℕ)) (block : ℕ) : Type 0 where
  pub gone : slice_index_or ways block None ≡ None
  pub other : (b : ℕ) → b < v.geometry.memory_blocks → b ≢ block → slice_index_or ways b None ≡ way_at v b

-- a block that lies in a way then is another, and lay there
lay-there : (v : View) (ways : List (Option ℕ)) (block b w : ℕ) → LeftWay v ways block → b < v.geometry.memory_blocks
    → slice_index_or ways b None ≡ Some w → (b ≢ block) × (way_at v b ≡ Some w)
lay-there v ways block b w went l at =
    let ne : b ≢ block =
    λ same. let bad : None ≡ Some w = sym went.gone ∙ (ap (λ (x : ℕ). slice_index_or ways x None) (sym same) ∙ at) in cc in
    (ne, sym (went.other b l ne) ∙ at)

-- a block that is found in a way of a set then was found there before
lies-there : (v : View) (e : Event) (room : ℕ) (ways : List (Option ℕ)) (block set way b : ℕ) → LeftWay v ways block
    → b < v.geometry.memory_blocks → lies_in (next_view v e room v.registers ways) set way b ≡ true → lies_in v set way b ≡ true
lies-there v e room ways block set way b went l lies =
    let is = lies-true (next_view v e room v.registers ways) set way b lies in
    true-lies v set way b is.0 is.1 (lay-there v ways block b way went l is.2).1

-- the block that is in a way then was in it
slot-there : (v : View) (e : Event) (room : ℕ) (ways : List (Option ℕ)) (block set way b : ℕ) (home : HomeState) → LeftWay v ways block
    → WaysFit v home → slot_at (next_view v e room v.registers ways) set way ≡ Some b → slot_at v set way ≡ Some b
slot-there v e room ways block set way b home went fit slot =
    let is = slot-lies (next_view v e room v.registers ways) set way b slot in
    let at : way_at v b ≡ Some way = (lay-there v ways block b way went is.0.0 is.2).1 in
    lies-slot v set way b is.0 is.1 at (λ a own in_set there. fit.once a b way own is.0 (in_set ∙ sym is.1) there at)

-- the way that it left is free then
slot-left : (v : View) (e : Event) (room : ℕ) (ways : List (Option ℕ)) (block set way : ℕ) (home : HomeState) → LeftWay v ways block
    → WaysFit v home → IsOwn v.geometry v.number block → set_of v.geometry block ≡ set → way_at v block ≡ Some way
    → slot_at (next_view v e room v.registers ways) set way ≡ None
slot-left v e room ways block set way home went fit own in_set at =
    let t : View = next_view v e room v.registers ways in
    none-lowest (lies_in t set way) v.geometry.memory_blocks
    (λ x l. elim (cases_Bool (lies_in t set way x)) [
      | inr f ↦ f
      | inl lies ↦
          let is = lies-true t set way x lies in
          let was = lay-there v ways block x way went l is.2 in
          absurd (was.0 (fit.once x block way (l, is.0) own (is.1 ∙ sym in_set) was.1 at))
    ])

-- each other has what it had
slot-kept : (v : View) (e : Event) (room : ℕ) (ways : List (Option ℕ)) (block set way : ℕ) → LeftWay v ways block
    → (set_of v.geometry block ≡ set → way_at v block ≡ Some way → ⊥)
    → slot_at (next_view v e room v.registers ways) set way ≡ slot_at v set way
slot-kept v e room ways block set way went not_here =
    let t : View = next_view v e room v.registers ways in
    slot-same v t set way refl
    (λ b l. elim (cases_Bool (lies_in t set way b)) [
      | inl lies ↦ lies ∙ sym (lies-there v e room ways block set way b went l lies)
      | inr f ↦ elim (cases_Bool (lies_in v set way b)) [
        | inr g ↦ f ∙ sym g
        | inl lay ↦
            let is = lies-true v set way b lay in
            elim (cases_Bool (b == block)) [
              | inl same ↦
                  let at : b ≡ block = eqb-true b block same in
                  absurd (not_here (ap (set_of v.geometry) (sym at) ∙ is.1) (ap (way_at v) (sym at) ∙ is.2))
              | inr other ↦
                  let ne : b ≢ block = λ s. let u = eq-eqb b block s in let bad : true ≡ false = sym u ∙ other in cc in
                  let still = true-lies t set way b is.0 is.1 (went.other b l ne ∙ is.2) in
                  let bad : true ≡ false = sym still ∙ f in cc
            ]
      ]
    ])

-- a block that home finds in a way lies in that way
home-way : (way : ℕ) (o : Option ℕ) → is_home_way o way ≡ true → o ≡ Some way
home-way way None h = cc
home-way way (Some x) h = ap (λ (n : ℕ). Some n) (sym (eqb-true way x h))

-- and home finds it in the way in which it lies
way-home : (way : ℕ) (o : Option ℕ) → o ≡ Some way → is_home_way o way ≡ true
way-home way o h = rw h (eq-eqb way way refl)

-- which ways are free then
free-then : (v : View) (e : Event) (room : ℕ) (ways : List (Option ℕ)) (block set way : ℕ) (old : HomeState) (t : Bool)
    → (set == set_of v.geometry block && is_home_way (way_in old block) way) ≡ t → LeftWay v ways block → WaysFit v old
    → IsOwn v.geometry v.number block → free_at old set way ≡ is_none (slot_at v set way)
    → (if t then true else free_at old set way) ≡ is_none (slot_at (next_view v e room v.registers ways) set way)
free-then v e room ways block set way old true here went fit own was =
    let k = and_parts (set == set_of v.geometry block) (is_home_way (way_in old block) way) here in
    let in_set : set_of v.geometry block ≡ set = sym (eqb-true set (set_of v.geometry block) k.0) in
    let at : way_at v block ≡ Some way = fit.shown block own.0 ∙ home-way way (way_in old block) k.1 in
    ap (λ (o : Option ℕ). is_none o) (sym (slot-left v e room ways block set way old went fit own in_set at))
free-then v e room ways block set way old false here went fit own was =
    was
    ∙ ap (λ (o : Option ℕ). is_none o)
    (sym (slot-kept v e room ways block set way went
    (λ in_set at.
    let s : (set == set_of v.geometry block) ≡ true = eq-eqb set (set_of v.geometry block) (sym in_set) in
    let w : is_home_way (way_in old block) way ≡ true = way-home way (way_in old block) (sym (fit.shown block own.0) ∙ at) in
    let both : (set == set_of v.geometry block && is_home_way (way_in old block) way) ≡ true = rw (s, w) refl in
    let bad : true ≡ false = sym both ∙ here in cc)))

-- A block of the bank leaves home by an event that grants nothing: the ways fit then.
pub leaving-fits : (v : View) (e : Event) (room : ℕ) (ways : List (Option ℕ)) (old new : HomeState)
    → IsSteady (shape_of v.geometry) (end_at v) → GrantsNothing e → IsOwn v.geometry v.number (here v e) → (left v e).home ≡ None
    → GaveUp old new (here v e) → geometry_in old ≡ v.geometry
    → ((b : ℕ) → b < v.geometry.memory_blocks → slice_index_or ways b None ≡ way_in new b)
    → WaysFit v old → WaysFit (next_view v e room v.registers ways) new
leaving-fits v e room ways old new steady none own lacks gave geometry shown fit =
    let t : View = next_view v e room v.registers ways in
    let block : ℕ = here v e in
    let went : LeftWay v ways block = record {
      gone = shown block own.0 ∙ gave.ways block ∙ at-block block None (way_in old block);
      other = λ b l ne. shown b l ∙ gave.ways b ∙ at-other block b None (way_in old b) ne ∙ sym (fit.shown b l);
    } in
    record {
      shown = shown;
      inside = λ b w own_b lies. fit.inside b w own_b (lay-there v ways block b w went own_b.0 lies).1;
      once = λ a b w own_a own_b set_ab lies_a lies_b.
          fit.once a b w own_a own_b set_ab (lay-there v ways block a w went own_a.0 lies_a).1
          (lay-there v ways block b w went own_b.0 lies_b).1;
      holds = λ b own_b.
          ap (λ (s : ℕ → Block). is_none (s b).home) (blocks-next v e room v.registers ways)
          ∙ each-next v e (λ y s. IsOwn v.geometry v.number y → is_none s.home ≡ is_none (way_at t y))
          (λ o. ap (λ (x : Option Line). is_none x) lacks ∙ ap (λ (x : Option ℕ). is_none x) (sym went.gone))
          (λ y ne o. fit.holds y o ∙ ap (λ (x : Option ℕ). is_none x) (sym (went.other y o.0 ne)))
          b own_b;
      free = λ set way l k.
          gave.free set way
          ∙ ap (λ (n : ℕ). if set == n && is_home_way (way_in old block) way then true else free_at old set way)
          (ap (λ g. set_of g block) geometry)
          ∙ free-then v e room ways block set way old (set == set_of v.geometry block && is_home_way (way_in old block) way) refl
          went fit own (fit.free set way l k);
      held = each-follows (HoldsWay v) (HoldsWay t) v.registers
          (λ r h. record {
            inside = h.inside;
            own = h.own;
            lies = λ b w on at. h.lies b w on (lay-there v ways block b w went (h.own b on).0.0 at).1;
            alone = λ b l lies. h.alone b l (lies-there v e room ways block r.way.set r.way.way b went l lies);
          })
          fit.held;
      apart = fit.apart;
      orders = λ set l.
          subst (λ (order : List ℕ). IsInOrder (slots_at t set) (is_filling t set) t.log order) (sym (gave.orders set))
          (other-events-keep-order (slots_at t set) (is_filling t set) v.log (order_at old set) e
          (order-transfers (slots_at v set) (slots_at t set) (is_filling v set) (is_filling t set) v.log (order_at old set)
          (slots-length t set ∙ sym (slots-length v set))
          (λ w b at fills.
          let k = slots-some t set w b at in
          let was = slot-there v e room ways block set w b old went fit k.1 in (
            slots-in v set w k.0 ∙ was,
            elim (cases_Bool (is_filling v set w)) [
              | inr f ↦ f
              | inl f ↦
                  let still = filling-follows v t set w v.registers v.registers (no-grant-next v e room v.registers ways steady none)
                  (same-work v.registers) f in
                  let bad : true ≡ false = sym still ∙ fills in cc
            ],
          ))
          (fit.orders set l))
          (λ w b at. grants-none b e none));
    }

-- ## Home and the registers

-- nobody is recorded of a block that is idle
pub nobody-at : (shape : Shape) (s : Block) → IsServiceAt shape s → Idle shape s → (x : ℕ) → (s.client x).recorded ≡ p_None
nobody-at shape s kept idle x =
    elim (cases_lt x shape.clients) [
      | inl l ↦ idle.nobody x l
      | inr l ↦ ap (λ (k : Client). k.recorded) (kept.outside x (λ m. absurd (omega (arith, l, m))))
    ]

-- a block that a register works on is busy
pub works-busy : (v : View) (own block : ℕ) (acts : Register) → register_of own v.registers ≡ Some acts → works_on acts block ≡ true
    → is_busy block v.registers ≡ true
works-busy v own block r found on =
    elim (cases_Bool (is_busy block v.registers)) [ inl t ↦ t | inr f ↦ absurd (found-busy own v.registers r block found on f) ]

-- what became of the layers where a block left home
pub leaving-layers : (v : View) (h : Layers) (e : Event) (new : HomeState) → Means v h → IsOwn v.geometry v.number (here v e)
    → GaveUp h.home new (here v e) → IsHomeOf new (here v e) (left v e)
    → ((b : ℕ) → b ≢ here v e → outward_in new b ≡ outward_in h.home b)
    → (b : ℕ) → IsOwn v.geometry v.number b → IsHomeOf new b (block_next v e b)
leaving-layers v h e new m own gave at outward =
    let block : ℕ = here v e in
    homes-next v h e new m at
    (λ b ne was. record {
      line = gave.lines b ∙ at-other block b None (line_in h.home b) ne ∙ was.line;
      recorded = λ x. gave.recorded x b ∙ at-other block b p_None (recorded_in h.home x b) ne ∙ was.recorded x;
      outward = outward b ne ∙ was.outward;
      memory = gave.memory b ∙ was.memory;
    })

-- ## A Put

-- the bank is kept once the block left home, and its Put is on the way to the memory
pub put-keeps : (v : View) (h : Layers) (own block room : ℕ) (ways : List (Option ℕ)) (home : HomeState) → Means v h
    → Acts v own (Put block) → GaveUp h.home home block
    → ((b : ℕ) → outward_in home b ≡ (if b == block then o_Put (home_bytes (line_in h.home block)) else outward_in h.home b))
    → ((b : ℕ) → b < v.geometry.memory_blocks → slice_index_or ways b None ≡ way_in home b)
    → Means (next_view v (SendPut block) room v.registers ways) (record h { home = home })
put-keeps v h own block room ways home m acts gave outward shown =
    let shape = shape_of v.geometry in
    let e = SendPut block in
    let s : Block = end_at v block in
    let steady = bank-steady v h m in
    let is_own : IsOwn v.geometry v.number block = (acts.may.0, acts.bank) in
    let is : IsHomeOf h.home block s = m.home block is_own in
    let nobody = nobody-at shape s (steady.service block) acts.may.1.1 in
    let busy = works-busy v own block acts.register acts.found acts.works in
    let other : (b : ℕ) → b ≢ block → outward_in home b ≡ outward_in h.home b =
    λ b ne. outward b ∙ at-other block b (o_Put (home_bytes (line_in h.home block))) (outward_in h.home b) ne in
    means-next v h (record h { home = home }) e room v.registers ways m
    (record { may = acts.may; first = tt; here = acts.bank; later = tt })
    (record {
      lanes = λ x l lt. refl;
      copies = entries-next v h e m (λ x. refl);
      home = leaving-layers v h e home m is_own gave
          (record {
            line = gave.lines block ∙ at-block block None (line_in h.home block);
            recorded = λ x. gave.recorded x block ∙ at-block block p_None (recorded_in h.home x block) ∙ sym (nobody x);
            outward =
                outward block ∙ at-block block (o_Put (home_bytes (line_in h.home block))) (outward_in h.home block)
                ∙ ap (λ (l : Option Line). o_Put (home_bytes l)) is.line;
            memory = gave.memory block ∙ is.memory;
          })
          other;
      quiet = quiet-next v e h.home home is_own other;
      links_size = record { bank = refl; clients = refl };
      copies_size = record { bank = refl; limit = refl; blocks = refl; clients = refl };
      home_bank = gave.bank;
      limit = refl;
      clock = refl;
    })
    (registers-next v e room v.registers ways
    (putting-keeps-agreement shape (end_at v) v.registers block m.registers.agree acts.may busy) m.registers.few)
    (leaving-fits v e room ways h.home home steady tt is_own refl gave m.home_geometry shown m.ways)

-- something passes of fewer than eight blocks before it
pub put-few : (v : View) (h : Layers) (own block count : ℕ) → Means v h → Acts v own (Put block)
    → ((n : ℕ) (holder : ℕ → ℕ) → EachHasHolder h.home n holder → count ≤ n) → count < 8
put-few v h own block count m acts most =
    crossings-few v h own acts.register count m acts.found acts.here acts.fits
    (λ none. let bad : None ≡ Some block = sym none ∙ acts.of in cc)
    (λ x victim.
    let same : Some block ≡ Some x = sym acts.of ∙ victim in
    let is : block ≡ x = cc in
    subst (λ (y : ℕ). (end_at v y).outward ≡ Quiet) is acts.may.1.1.quiet)
    most

-- and nothing of the block
pub put-quiet : (v : View) (h : Layers) (own block : ℕ) → Means v h → Acts v own (Put block) → outward_in h.home block ≡ Quiet
put-quiet v h own block m acts = (m.home block (acts.may.0, acts.bank)).outward ∙ acts.may.1.1.quiet

-- home holds the block, which is one of the memory
pub leave-held : (v : View) (h : Layers) (block : ℕ) (dirty : Bool) → Means v h → IsOwn v.geometry v.number block
    → MayGiveUp (shape_of v.geometry) (end_at v block) dirty → IsSome (line_in h.home block)
leave-held v h block dirty m own may =
    let held : line_in h.home block ≡ Some may.0.0 = (m.home block own).line ∙ may.0.1 in rw held refl

-- home too knows the block as one of the memory
pub leave-inside : (v : View) (h : Layers) (block : ℕ) → Means v h → block < v.geometry.memory_blocks
    → block < (geometry_in h.home).memory_blocks
leave-inside v h block m l = rw m.home_geometry l

-- a block that lies nowhere lies nowhere still, whether it is the one that left or not
none-either : (t : Bool) (o : Option ℕ) → o ≡ None → (if t then None else o) ≡ None
none-either true o h = refl
none-either false o h = h

-- the ways once a block left home
pub ways-left : (old new : HomeState) (blocks block : ℕ) → GaveUp old new block
    → (b : ℕ) → slice_index_or (ways_below (way_in new) blocks) b None
    ≡ ways_without block (λ x. slice_index_or (ways_below (way_in old) blocks) x None) b
ways-left old new blocks block gave b =
    elim (cases_lt b blocks) [
      | inl l ↦
          below-at (way_in new) blocks b l ∙ gave.ways b
          ∙ ap (λ (o : Option ℕ). if b == block then None else o) (sym (below-at (way_in old) blocks b l))
      | inr l ↦
          below-past (way_in new) blocks b l
          ∙ sym (none-either (b == block) (slice_index_or (ways_below (way_in old) blocks) b None) (below-past (way_in old) blocks b l))
    ]

-- ## A drop

-- the bank is kept once the block was dropped: a register that evicts it closes, and one with it as its victim goes on without
pub drop-keeps : (v : View) (h : Layers) (own block room : ℕ) (ways : List (Option ℕ)) (home : HomeState) → Means v h
    → Acts v own (Drop block) → GaveUp h.home home block → SameOutward h.home home
    → ((b : ℕ) → b < v.geometry.memory_blocks → slice_index_or ways b None ≡ way_in home b)
    → Means (next_view v (e_Drop block) room (ended block v.registers) ways) (record h { home = home })
drop-keeps v h own block room ways home m acts gave outward shown =
    let shape = shape_of v.geometry in
    let e = e_Drop block in
    let s : Block = end_at v block in
    let steady = bank-steady v h m in
    let is_own : IsOwn v.geometry v.number block = (acts.may.0, acts.bank) in
    let is : IsHomeOf h.home block s = m.home block is_own in
    let nobody = nobody-at shape s (steady.service block) acts.may.1.1 in
    let nowhere : slice_index_or ways block None ≡ None =
    shown block is_own.0 ∙ gave.ways block ∙ at-block block None (way_in h.home block) in
    let fewer = ended-few block v.registers in
    let few = m.registers.few in
    means-next v h (record h { home = home }) e room (ended block v.registers) ways m
    (record { may = acts.may; first = tt; here = acts.bank; later = tt })
    (record {
      lanes = λ x l lt. refl;
      copies = entries-next v h e m (λ x. refl);
      home = leaving-layers v h e home m is_own gave
          (record {
            line = gave.lines block ∙ at-block block None (line_in h.home block);
            recorded = λ x. gave.recorded x block ∙ at-block block p_None (recorded_in h.home x block) ∙ sym (nobody x);
            outward = outward.outward block ∙ is.outward;
            memory = gave.memory block ∙ is.memory;
          })
          (λ b ne. outward.outward b);
      quiet = λ b apart. outward.outward b;
      links_size = record { bank = refl; clients = refl };
      copies_size = record { bank = refl; limit = refl; blocks = refl; clients = refl };
      home_bank = gave.bank;
      limit = refl;
      clock = refl;
    })
    (registers-next v e room (ended block v.registers) ways
    (dropping-keeps-agreement shape (end_at v) v.registers block m.registers.agree acts.may) (omega (arith, fewer, few)))
    (ended-fits (next_view v e room v.registers ways) home block nowhere
    (leaving-fits v e room ways h.home home steady tt is_own refl gave m.home_geometry shown m.ways))
