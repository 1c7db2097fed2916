-- Home takes the bytes that it asked for, and places them into the way that the block's register holds.
use Rattle.std.proofs.Common.{◌≡◌, ◌≢◌, ℕ, ◌<◌, ◌==◌, ◌&&◌, ◌||◌, Bool, true, false, List, [], ◌∷◌, ◌++◌, set, Option, Some, None, is_none, if◌then◌else◌, refl, sym, ◌∙◌, ap, subst, inl, inr, eqb-true, eq-eqb}
use Rattle.std.specs.List.{AllByRecursion}
use Rattle.tl_types.proofs.Booleans.{or-else}
use Rattle.std.specs.Prelude.{◌⊎◌}
use Rattle.std.proofs.lemmas.Bool.{cases_eq, and_parts, cases_Bool}
use Rattle.tl_map.specs.Numbers.{Numbers}
use Rattle.tl_map.specs.Places.{bank_of, set_of}
use Rattle.tl_map.proofs.PlaceLaws.{set_of-lt, some_sets}
use Rattle.tl_protocol.specs.Home.{IsData}
use Rattle.tl_protocol.specs.Protocol.{Block, took_data}
use Rattle.tl_protocol.specs.declared.event.Event.TheVariants.{TakeData}
use Rattle.tl_protocol.specs.declared.home.Outward.{Outward}
use Rattle.tl_protocol.specs.declared.home.Outward.TheVariants.{Quiet, Get, Data, Put, PutAck}
use Rattle.tl_protocol.specs.declared.shape.Shape.{Shape}
use Rattle.tl_registers.specs.declared.register.Register.{Register}
use Rattle.tl_registers.specs.Agree.{IsSteady}
use Rattle.tl_registers.specs.Pending.{grant_pending}
use Rattle.tl_registers.specs.Register.{works_on}
use Rattle.tl_registers.specs.VictimWay.{IsInOrder}
use Rattle.tl_registers.proofs.Opening.{elsewhere, here}
use Rattle.tl_registers.proofs.Order.{placing-keeps-order}
use Rattle.tl_registers.proofs.Tables.{IsOther, each-both, one-among}
use Rattle.tl_bank_home.specs.Homes.{HomeState, SameBank, SameMemory, bank_in, fetched, free_at, geometry_in, line_in, order_at, outward_in, recorded_in, way_in}
use Rattle.tl_bank_spec.specs.HomeCalls.{take_memory_cases}
use Rattle.tl_bank_spec.specs.Refusal.{first_of}
use Rattle.tl_bank_spec.specs.View.{View, end_at, shape_of}
use Rattle.tl_bank_spec.specs.Own.{IsOwn, way_at, ways_below}
use Rattle.tl_bank_spec.specs.Ways.{slot_at, slots_at}
use Rattle.tl_bank_laws.specs.Layers.{Layers}
use Rattle.tl_bank_laws.specs.Means.{HoldsWay, IsHomeOf, Means, WaysFit, is_filling, is_filling_by}
use Rattle.tl_bank_laws.specs.Memory.{RegisterHolds}
use Rattle.tl_bank_laws.proofs.Fetched.{DataComes, HoldsOther, any-found, data-comes, one-way, works-own}
use Rattle.tl_bank_laws.proofs.HomeSteps.{SameAt, homes-event, homes-layers}
use Rattle.tl_bank_laws.proofs.Moves.{Comes, Moves, at-block, at-other, empty-lies, lies-of, moved-here, moved-lies, moved-other, of-lies, slot-comes, slot-comes-other, slots-come, slots-come-other, with_ways}
use Rattle.tl_bank_laws.proofs.Next.{block_next, blocks-next, means-next, next_view}
use Rattle.tl_bank_laws.proofs.Orders.{order-next}
use Rattle.tl_bank_laws.proofs.Slots.{below-at, lies-true}
use Rattle.tl_bank_laws.proofs.Ways.{bank-steady, filling-follows, fit-stays, no-grant-next, same-work}

-- ## Home

-- what became of home
pub record TookData (old new : HomeState) (block way : ℕ) : Type 0 where
  pub bank : SameBank old new
  pub lines : (b : ℕ) → line_in new b ≡ (if b == block then fetched (outward_in old block) else line_in old b)
  pub recorded : (c b : ℕ) → recorded_in new c b ≡ recorded_in old c b
  pub ways : (b : ℕ) → way_in new b ≡ (if b == block then Some way else way_in old b)
  pub free :
      (x y : ℕ) → free_at new x y ≡ (if (x == set_of (geometry_in old) block) && (y == way) then false else free_at old x y)
  pub orders : (set : ℕ) → order_at new set ≡ order_at old set
  pub outward : (b : ℕ) → outward_in new b ≡ (if b == block then Quiet else outward_in old b)
  pub memory : SameMemory old new

-- home's copy of the bytes that come is the one that the event leaves
fetched-home : (s : Block) (out : Outward) → IsData out → fetched out ≡ (took_data s out).home
fetched-home s Quiet h = let bad = h.1 in cc
fetched-home s Get h = let bad = h.1 in cc
fetched-home s (Data bytes) h = refl
fetched-home s (Put bytes) h = let bad = h.1 in cc
fetched-home s PutAck h = let bad = h.1 in cc

-- nothing passes of the block any more
fetched-outward : (s : Block) (out : Outward) → IsData out → Quiet ≡ (took_data s out).outward
fetched-outward s Quiet h = let bad = h.1 in cc
fetched-outward s Get h = let bad = h.1 in cc
fetched-outward s (Data bytes) h = refl
fetched-outward s (Put bytes) h = let bad = h.1 in cc
fetched-outward s PutAck h = let bad = h.1 in cc

-- what home records of each client stays
fetched-client : (s : Block) (out : Outward) (x : ℕ) → ((took_data s out).client x).recorded ≡ (s.client x).recorded
fetched-client s Quiet x = refl
fetched-client s Get x = refl
fetched-client s (Data bytes) x = refl
fetched-client s (Put bytes) x = refl
fetched-client s PutAck x = refl

-- the block's bytes in memory stay
fetched-memory : (s : Block) (out : Outward) → (took_data s out).memory ≡ s.memory
fetched-memory s Quiet = refl
fetched-memory s Get = refl
fetched-memory s (Data bytes) = refl
fetched-memory s (Put bytes) = refl
fetched-memory s PutAck = refl

-- home holds the block then
fetched-there : (s : Block) (out : Outward) → IsData out → is_none (took_data s out).home ≡ false
fetched-there s Quiet h = let bad = h.1 in cc
fetched-there s Get h = let bad = h.1 in cc
fetched-there s (Data bytes) h = refl
fetched-there s (Put bytes) h = let bad = h.1 in cc
fetched-there s PutAck h = let bad = h.1 in cc

-- home has of the block what taking the bytes leaves
data-home : (old new : HomeState) (block way : ℕ) (s : Block) → IsData s.outward → TookData old new block way → IsHomeOf old block s
    → IsHomeOf new block (took_data s s.outward)
data-home old new block way s came did h = record {
  line =
      did.lines block ∙ at-block block (fetched (outward_in old block)) (line_in old block) ∙ ap fetched h.outward
      ∙ fetched-home s s.outward came;
  recorded = λ c. did.recorded c block ∙ h.recorded c ∙ sym (fetched-client s s.outward c);
  outward = did.outward block ∙ at-block block Quiet (outward_in old block) ∙ fetched-outward s s.outward came;
  memory = did.memory block ∙ h.memory ∙ sym (fetched-memory s s.outward);
}

-- and of each other block what it had
data-others : (old new : HomeState) (block way : ℕ) → TookData old new block way → (b : ℕ) → b ≢ block → SameAt old new b
data-others old new block way did b ne = record {
  line = did.lines b ∙ at-other block b (fetched (outward_in old block)) (line_in old b) ne;
  recorded = λ c. did.recorded c b;
  outward = did.outward b ∙ at-other block b Quiet (outward_in old b) ne;
  memory = did.memory b;
}

-- ## The ways then

-- the ways by block, as home has them
abbrev pub home_ways : View → HomeState → List (Option ℕ)
home_ways v home = ways_below (way_in home) v.geometry.memory_blocks

-- the block comes into its register's way
data-moves : (v : View) (h : Layers) (home : HomeState) (block way : ℕ) → Means v h → TookData h.home home block way
    → Moves v (home_ways v home) block (Some way)
data-moves v h home block way m did b l =
    below-at (way_in home) v.geometry.memory_blocks b l ∙ did.ways b
    ∙ ap (λ (at : Option ℕ). if b == block then Some way else at) (sym (m.ways.shown b l))

-- so a block that lay nowhere comes into a way where none lay
data-into : (v : View) (h : Layers) (home : HomeState) (block way : ℕ) → Means v h → DataComes v block way
    → TookData h.home home block way → Comes v (home_ways v home) block way
data-into v h home block way m d did = record {
  moves = data-moves v h home block way m did;
  inside = d.own.0;
  here = d.own.1;
  nowhere = d.nowhere;
  free = d.free;
}

-- ## The registers hold their ways

-- a register works on the block just where it is the block's own
works-is : (r q : Register) (block : ℕ) → works_on r block ≡ true → works_on q block ≡ true → (q ≡ r) ⊎ IsOther r q → q ≡ r
works-is r q block own on (inl is) = is
works-is r q block own on (inr other) = let none = other block own in let bad : true ≡ false = sym on ∙ none in cc

-- a register holds its way then, be it the block's own or one that works and holds apart from that
data-held : (v : View) (e_room : ℕ) (ways : List (Option ℕ)) (block way : ℕ) (r q : Register) → DataComes v block way
    → Comes v ways block way → r.own ≡ block → r.way.way ≡ way → set_of v.geometry block ≡ r.way.set → HoldsWay v q
    → ((q ≡ r) ⊎ IsOther r q) × ((q ≡ r) ⊎ HoldsOther r q)
    → HoldsWay (next_view v (TakeData block) e_room v.registers ways) q
data-held v room ways block way r q d c own way_is set_is holds only =
    let w : View = with_ways v ways in
    record {
      inside = holds.inside;
      own = holds.own;
      lies = λ b x on at.
          elim (cases_eq b block) [
            | inl is ↦
                let works : works_on q block ≡ true = ap (works_on q) (sym is) ∙ on in
                let same : q ≡ r = works-is r q block (works-own r block own) works only.0 in
                let there : Some way ≡ Some x = sym (moved-here v ways block (Some way) c.moves c.inside) ∙ (ap (way_at w) (sym is) ∙ at) in
                let x_is : x ≡ way = cc in
                x_is ∙ sym way_is ∙ ap (λ (y : Register). y.way.way) (sym same)
            | inr ne ↦ holds.lies b x on (sym (moved-other v ways block b (Some way) c.moves (holds.own b on).0.0 ne) ∙ at)
          ];
      alone = λ b l lies.
          elim (cases_eq b block) [
            | inl is ↦
                let there = lies-true w q.way.set q.way.way b lies in
                let set_q : q.way.set ≡ r.way.set = sym there.1 ∙ (ap (set_of v.geometry) is ∙ set_is) in
                let at : Some way ≡ Some q.way.way =
                sym (moved-here v ways block (Some way) c.moves c.inside) ∙ (ap (way_at w) (sym is) ∙ there.2) in
                let way_q : q.way.way ≡ way = cc in
                let same : q ≡ r = elim only.1 [ inl s ↦ s | inr other ↦ absurd (other set_q (way_q ∙ sym way_is)) ] in
                ap (works_on q) is ∙ (ap (λ (y : Register). works_on y block) same ∙ works-own r block own)
            | inr ne ↦
                holds.alone b l
                (of-lies v q.way.set q.way.way b
                (moved-lies v ways block b (Some way) q.way.set q.way.way c.moves ne (lies-of w q.way.set q.way.way b l lies)))
          ];
    }

-- so does each open register
data-each : (v : View) (h : Layers) (room : ℕ) (ways : List (Option ℕ)) (block way : ℕ) → Means v h → DataComes v block way
    → Comes v ways block way → AllByRecursion (HoldsWay (next_view v (TakeData block) room v.registers ways)) v.registers
data-each v h room ways block way m d c =
    let r : Register = d.register in
    let P : Register → Type 0 = λ q. ((q ≡ r) ⊎ IsOther r q) × ((q ≡ r) ⊎ HoldsOther r q) in
    each-both (HoldsWay v) P (HoldsWay (next_view v (TakeData block) room v.registers ways)) v.registers
    (λ q holds only. data-held v room ways block way r q d c d.own_is d.way_is d.set_is holds only)
    m.ways.held
    (each-both (λ q. (q ≡ r) ⊎ IsOther r q) (λ q. (q ≡ r) ⊎ HoldsOther r q) P v.registers (λ q a b. (a, b))
    (one-among block v.registers r m.registers.agree.apart d.found) (one-way block v.registers r m.ways.apart d.found))

-- ## The order of the ways

-- the way into which the block came is filled by its register
data-fills : (v : View) (room : ℕ) (ways : List (Option ℕ)) (block way : ℕ) → IsSteady (shape_of v.geometry) (end_at v)
    → DataComes v block way
    → is_filling (next_view v (TakeData block) room v.registers ways) (set_of v.geometry block) way ≡ true
data-fills v room ways block way steady d =
    let w : View = next_view v (TakeData block) room v.registers ways in
    let s : ℕ = set_of v.geometry block in
    let r : Register = d.register in
    let set_r : (r.way.set == s) ≡ true = eq-eqb r.way.set s (sym d.set_is) in
    let way_r : (r.way.way == way) ≡ true = eq-eqb r.way.way way d.way_is in
    let pending : grant_pending (shape_of w.geometry) (end_at w r.own) ≡ false =
    ap (λ b. grant_pending (shape_of w.geometry) (end_at w b)) d.own_is
    ∙ no-grant-next v (TakeData block) room v.registers ways steady tt block d.ungranted in
    let fills : is_filling_by w s way r ≡ true = rw (set_r, way_r, pending) refl in
    any-found (is_filling_by w s way) block v.registers r d.found fills

-- a way that was filled is filled on
fills-on : (v : View) (room : ℕ) (ways : List (Option ℕ)) (block : ℕ) (s y : ℕ) → IsSteady (shape_of v.geometry) (end_at v)
    → is_filling v s y ≡ true → is_filling (next_view v (TakeData block) room v.registers ways) s y ≡ true
fills-on v room ways block s y steady h =
    filling-follows v (next_view v (TakeData block) room v.registers ways) s y v.registers v.registers
    (no-grant-next v (TakeData block) room v.registers ways steady tt) (same-work v.registers) h

-- in the set of the block
order-here : (v : View) (room : ℕ) (ways : List (Option ℕ)) (block way : ℕ) (order : List ℕ)
    → IsSteady (shape_of v.geometry) (end_at v) → DataComes v block way → Comes v ways block way
    → IsInOrder (slots_at v (set_of v.geometry block)) (is_filling v (set_of v.geometry block)) v.log order
    → IsInOrder (slots_at (with_ways v ways) (set_of v.geometry block))
    (is_filling (next_view v (TakeData block) room v.registers ways) (set_of v.geometry block)) (v.log ++ TakeData block ∷ []) order
order-here v room ways block way order steady d c h =
    let e = TakeData block in
    let s : ℕ = set_of v.geometry block in
    let w : View = next_view v e room v.registers ways in
    let filled : ℕ → Bool = λ y. is_filling v s y || (y == way) in
    let placed = placing-keeps-order (slots_at v s) (is_filling v s) v.log order way block h in
    subst (λ (slots : List (Option ℕ)). IsInOrder slots (is_filling w s) (v.log ++ e ∷ []) order) (sym (slots-come v ways block way c d.inside))
    (order-next (set (slots_at v s) way (Some block)) filled (is_filling w s) v.log order e tt
    (λ y b lies fills. elim (cases_Bool (is_filling v s y)) [
      | inl f ↦ fills-on v room ways block s y steady f
      | inr f ↦
          let is : y ≡ way = eqb-true y way (or-else (is_filling v s y) (y == way) fills f) in
          ap (is_filling w s) is ∙ data-fills v room ways block way steady d
    ])
    placed)

-- in another set
order-there : (v : View) (room : ℕ) (ways : List (Option ℕ)) (block way s : ℕ) (order : List ℕ)
    → IsSteady (shape_of v.geometry) (end_at v) → Comes v ways block way → s ≢ set_of v.geometry block
    → IsInOrder (slots_at v s) (is_filling v s) v.log order
    → IsInOrder (slots_at (with_ways v ways) s) (is_filling (next_view v (TakeData block) room v.registers ways) s)
    (v.log ++ TakeData block ∷ []) order
order-there v room ways block way s order steady c ne h =
    let e = TakeData block in
    let w : View = next_view v e room v.registers ways in
    subst (λ (slots : List (Option ℕ)). IsInOrder slots (is_filling w s) (v.log ++ e ∷ []) order) (sym (slots-come-other v ways block way s c ne))
    (order-next (slots_at v s) (is_filling v s) (is_filling w s) v.log order e tt
    (λ y b lies fills. fills-on v room ways block s y steady fills) h)

-- ## The ways fit

-- no two blocks of the bank and of one set lie in one way then
data-once : (v : View) (home : HomeState) (ways : List (Option ℕ)) (block way : ℕ) → WaysFit v home → Comes v ways block way
    → (a b x : ℕ) → IsOwn v.geometry v.number a → IsOwn v.geometry v.number b → set_of v.geometry a ≡ set_of v.geometry b
    → way_at (with_ways v ways) a ≡ Some x → way_at (with_ways v ways) b ≡ Some x → a ≡ b
data-once v home ways block way fit c a b x own_a own_b sets lies_a lies_b =
    let w : View = with_ways v ways in
    let other : (y : ℕ) → IsOwn v.geometry v.number y → set_of v.geometry y ≡ set_of v.geometry block → y ≢ block
    → way_at w y ≡ Some x → way_at w block ≡ Some x → ⊥ =
    λ y own set_y ne lies there.
    let same : Some way ≡ Some x = sym (moved-here v ways block (Some way) c.moves c.inside) ∙ there in
    let is : x ≡ way = cc in
    empty-lies v (set_of v.geometry block) way y c.free
    (moved-lies v ways block y (Some way) (set_of v.geometry block) way c.moves ne
    (record { inside = own.0; here = own.1; in_set = set_y; lies = lies ∙ ap Some is }))
    in
    elim (cases_eq a block) [
      | inl p ↦
          elim (cases_eq b block) [
            | inl q ↦ p ∙ sym q
            | inr ne ↦ absurd (other b own_b (sym sets ∙ ap (set_of v.geometry) p) ne lies_b (ap (way_at w) (sym p) ∙ lies_a))
          ]
      | inr np ↦
          elim (cases_eq b block) [
            | inl q ↦ absurd (other a own_a (sets ∙ ap (set_of v.geometry) q) np lies_a (ap (way_at w) (sym q) ∙ lies_b))
            | inr ne ↦
                fit.once a b x own_a own_b sets
                (sym (moved-other v ways block a (Some way) c.moves own_a.0 np) ∙ lies_a)
                (sym (moved-other v ways block b (Some way) c.moves own_b.0 ne) ∙ lies_b)
          ]
    ]

-- home holds just those blocks of the bank then that lie somewhere
data-holds : (v : View) (home : HomeState) (ways : List (Option ℕ)) (block way b : ℕ) → WaysFit v home → DataComes v block way
    → Comes v ways block way → IsOwn v.geometry v.number b
    → is_none (block_next v (TakeData block) b).home ≡ is_none (way_at (with_ways v ways) b)
data-holds v home ways block way b fit d c own =
    let shape : Shape = shape_of v.geometry in
    let e = TakeData block in
    let w : View = with_ways v ways in
    elim (cases_eq b block) [
      | inl q ↦
          let there : is_none (block_next v e block).home ≡ false =
          ap (λ (s : Block). is_none s.home) (here shape (end_at v) e block refl)
          ∙ fetched-there (end_at v block) (end_at v block).outward d.came in
          let lies : is_none (way_at w block) ≡ false = ap is_none (moved-here v ways block (Some way) c.moves c.inside) in
          ap (λ y. is_none (block_next v e y).home) q ∙ (there ∙ sym lies) ∙ ap (λ y. is_none (way_at w y)) (sym q)
      | inr ne ↦
          ap (λ (s : Block). is_none s.home) (elsewhere shape (end_at v) e b ne)
          ∙ fit.holds b own ∙ ap is_none (sym (moved-other v ways block b (Some way) c.moves own.0 ne))
    ]

-- a way is free at home then just where no block is in it
data-free : (v : View) (old new : HomeState) (ways : List (Option ℕ)) (block way x y : ℕ) → Comes v ways block way
    → free_at old x y ≡ is_none (slot_at v x y)
    → free_at new x y ≡ (if (x == set_of v.geometry block) && (y == way) then false else free_at old x y)
    → free_at new x y ≡ is_none (slot_at (with_ways v ways) x y)
data-free v old new ways block way x y c was is =
    let w : View = with_ways v ways in
    let s : ℕ = set_of v.geometry block in
    elim (cases_Bool ((x == s) && (y == way))) [
      | inl t ↦
          let at = and_parts (x == s) (y == way) t in
          let now : free_at new x y ≡ false = is ∙ rw t refl in
          let slot : slot_at w x y ≡ Some block =
          ap (λ (n : ℕ). slot_at w n y) (eqb-true x s at.0) ∙ ap (slot_at w s) (eqb-true y way at.1) ∙ slot-comes v ways block way c in
          now ∙ sym (ap is_none slot)
      | inr t ↦
          let now : free_at new x y ≡ free_at old x y = is ∙ rw t refl in
          let slot = slot-comes-other v ways block way x y c
          (λ both.
          let p = eq-eqb x s both.0 in
          let q = eq-eqb y way both.1 in
          let holds : ((x == s) && (y == way)) ≡ true = rw (p, q) refl in
          let bad : true ≡ false = sym holds ∙ t in
          cc) in
          now ∙ was ∙ ap is_none (sym slot)
    ]

-- a block of the bank that lies somewhere then lies in one of the ways
data-inside : (v : View) (home : HomeState) (ways : List (Option ℕ)) (block way b x : ℕ) → WaysFit v home → DataComes v block way
    → Comes v ways block way → IsOwn v.geometry v.number b → way_at (with_ways v ways) b ≡ Some x → x < v.geometry.ways
data-inside v home ways block way b x fit d c own lies =
    elim (cases_eq b block) [
      | inl q ↦
          let same : Some way ≡ Some x = sym (moved-here v ways block (Some way) c.moves c.inside) ∙ (ap (way_at (with_ways v ways)) (sym q) ∙ lies) in
          let is : way ≡ x = cc in
          subst (λ (y : ℕ). y < v.geometry.ways) is d.inside
      | inr ne ↦ fit.inside b x own (sym (moved-other v ways block b (Some way) c.moves own.0 ne) ∙ lies)
    ]

-- the ways fit once the block came into its way
data-fits : (v : View) (h : Layers) (home : HomeState) (block way room : ℕ) → Means v h → DataComes v block way
    → TookData h.home home block way
    → WaysFit (next_view v (TakeData block) room v.registers (home_ways v home)) home
data-fits v h home block way room m d did =
    let e = TakeData block in
    let ways : List (Option ℕ) = home_ways v home in
    let w : View = next_view v e room v.registers ways in
    let c = data-into v h home block way m d did in
    let steady = bank-steady v h m in
    let fit = m.ways in
    record {
      shown = below-at (way_in home) v.geometry.memory_blocks;
      inside = λ b x own lies. data-inside v h.home ways block way b x fit d c own lies;
      once = data-once v h.home ways block way fit c;
      holds = λ b own.
          ap (λ (t : ℕ → Block). is_none (t b).home) (blocks-next v e room v.registers ways)
          ∙ data-holds v h.home ways block way b fit d c own;
      free = λ x y k l.
          data-free v h.home home ways block way x y c (fit.free x y k l)
          (did.free x y
          ∙ ap (λ (g : Numbers). if (x == set_of g block) && (y == way) then false else free_at h.home x y) m.home_geometry);
      held = data-each v h room ways block way m d c;
      apart = fit.apart;
      orders = λ s k.
          subst (λ (order : List ℕ). IsInOrder (slots_at w s) (is_filling w s) (v.log ++ e ∷ []) order) (sym (did.orders s))
          (elim (cases_eq s (set_of v.geometry block)) [
            | inl q ↦
                subst (λ (x : ℕ). IsInOrder (slots_at w x) (is_filling w x) (v.log ++ e ∷ []) (order_at h.home s)) (sym q)
                (order-here v room ways block way (order_at h.home s) steady d c
                (subst (λ (x : ℕ). IsInOrder (slots_at v x) (is_filling v x) v.log (order_at h.home s)) q (fit.orders s k)))
            | inr ne ↦ order-there v room ways block way s (order_at h.home s) steady c ne (fit.orders s k)
          ]);
    }

-- ## The bank then

-- The bank after home took the bytes.
pub data-keeps : (v : View) (h : Layers) (home : HomeState) (block way room : ℕ) → Means v h
    → first_of (take_memory_cases v block) ≡ None → IsData (end_at v block).outward
    → RegisterHolds v block way → TookData h.home home block way
    → Means (next_view v (TakeData block) room v.registers (home_ways v home)) (record h { home = home })
data-keeps v h home block way room m none came held did =
    let d = data-comes v h block way m none came held in
    let e = TakeData block in
    let ways : List (Option ℕ) = home_ways v home in
    means-next v h (record h { home = home }) e room v.registers ways m
    (homes-event v e tt (d.own.0, came) d.own.1)
    (homes-layers v h home e m tt d.own (record {
      bank = did.bank;
      at = data-home h.home home block way (end_at v block) came did (m.home block d.own);
      others = data-others h.home home block way did;
    }))
    (fit-stays v e room ways (bank-steady v h m) tt m.registers)
    (data-fits v h home block way room m d did)

-- What home needs to place the bytes of a block into a way.
pub record MayPlace (home : HomeState) (number place : ℕ) : Type 0 where
  pub block : number < (geometry_in home).memory_blocks
  pub own : bank_of (geometry_in home) number ≡ bank_in home
  pub asked : IsData (outward_in home number)
  pub away : line_in home number ≡ None
  pub way : place < (geometry_in home).ways
  pub free : free_at home (set_of (geometry_in home) number) place ≡ true

-- so it is where bytes came, the block's register holds the way, and no refusal's case holds
pub data-place : (v : View) (h : Layers) (block way : ℕ) → Means v h → first_of (take_memory_cases v block) ≡ None
    → IsData (end_at v block).outward → RegisterHolds v block way → MayPlace h.home block way
data-place v h block way m none came held =
    let d = data-comes v h block way m none came held in
    let part = m.home block d.own in
    let g_is : geometry_in h.home ≡ v.geometry = m.home_geometry in
    let set_in : set_of v.geometry block < v.geometry.sets = set_of-lt v.geometry block (some_sets v.geometry m.geometry) in
    record {
      block = subst (λ (g : Numbers). block < g.memory_blocks) (sym g_is) d.own.0;
      own = ap (λ (g : Numbers). bank_of g block) g_is ∙ d.own.1 ∙ sym m.home_bank;
      asked = subst IsData (sym part.outward) came;
      away = part.line ∙ d.lacks;
      way = subst (λ (g : Numbers). way < g.ways) (sym g_is) d.inside;
      free =
          ap (λ (g : Numbers). free_at h.home (set_of g block) way) g_is
          ∙ m.ways.free (set_of v.geometry block) way set_in d.inside ∙ ap is_none d.free;
    }
