-- Home grants the Acquire that a register serves.
use Rattle.std.proofs.Common.{◌≡◌, ◌≢◌, ℕ, ◌<◌, ◌≤◌, ◌==◌, ◌&&◌, not, true, false, List, [], ◌∷◌, ◌++◌, Option, Some, None, is_none, if◌then◌else◌, refl, sym, ◌∙◌, ap, subst, arith, inl, inr, eqb-true, eq-eqb}
use Rattle.std.specs.List.{AllByRecursion}
use Rattle.tl_types.proofs.Booleans.{or-else}
use Rattle.std.proofs.Math.Bool.{or-true, and-false}
use Rattle.std.specs.Prelude.{IsSome, slice_index_or}
use Rattle.std.specs.List.{list_any}
use Rattle.std.proofs.lemmas.Bool.{cases_lt, and_parts, cases_Bool, eqb-false, ne_eqb, not-true}
use Rattle.tl_ways.specs.Orders.{touched}
use Rattle.tl_types.specs.Lane.{is_here, with_message}
use Rattle.tl_types.specs.Permission.{grant_perm}
use Rattle.tl_types.specs.declared.channel.Channel.{Channel}
use Rattle.tl_types.specs.declared.channel.Channel.TheVariants.{D}
use Rattle.tl_types.specs.declared.message.Body.TheVariants.{Downward as b_Downward}
use Rattle.tl_types.specs.declared.message.Downward.TheVariants.{Grant as d_Grant}
use Rattle.tl_types.specs.declared.permission.GrantCap.{GrantCap}
use Rattle.tl_types.specs.declared.permission.GrantCap.TheVariants.{ToB, ToT}
use Rattle.tl_types.specs.declared.permission.Perm.TheVariants.{None as p_None, Branch, Tip}
use Rattle.tl_map.specs.Places.{set_of}
use Rattle.tl_protocol.specs.Client.{grant_bytes, sent_grant}
use Rattle.tl_protocol.specs.Pending.{IsServiceAt}
use Rattle.tl_protocol.specs.Protocol.{Block, RoomFor, granted, grants, home_bytes, with_client}
use Rattle.tl_protocol.specs.declared.client.Client.{Client}
use Rattle.tl_protocol.specs.declared.event.Event.TheVariants.{SendGrant}
use Rattle.tl_protocol.specs.declared.home.Accepted.{Accepted}
use Rattle.tl_protocol.specs.declared.home.Line.{Line}
use Rattle.tl_protocol.specs.declared.shape.Shape.{Shape}
use Rattle.tl_protocol_lanes.specs.Lanes.{Post, grant_post, sent_to}
use Rattle.tl_links.specs.Table.{LinkTable, lane_in, SameSize as SameLinks}
use Rattle.tl_bank_home.specs.Directories.{order_after}
use Rattle.tl_bank_home.specs.Homes.{HomeState, SameBank, SameMemory, SameOutward, free_at, geometry_in, line_in, order_at, recorded_in, way_in}
use Rattle.tl_registers.specs.Pending.{grant_pending}
use Rattle.tl_registers.specs.Register.{works_on}
use Rattle.tl_registers.specs.VictimWay.{IsInOrder, StandsOnce}
use Rattle.tl_registers.specs.declared.due.Due.TheVariants.{Grant}
use Rattle.tl_registers.specs.declared.register.Register.{Register}
use Rattle.tl_registers.proofs.Closing.{granting-keeps-agreement}
use Rattle.tl_registers.proofs.Order.{grant-keeps-order, other-events-keep-order}
use Rattle.tl_registers.proofs.Tables.{each-follows}
use Rattle.tl_bank_spec.specs.View.{View, end_at, client_at, shape_of}
use Rattle.tl_bank_spec.specs.Own.{IsOwn, way_at}
use Rattle.tl_bank_spec.specs.Ways.{slot_at, slots_at}
use Rattle.tl_bank_laws.specs.Entry.{entry_of}
use Rattle.tl_bank_laws.specs.Layers.{Layers}
use Rattle.tl_bank_laws.specs.Means.{HoldsWay, IsHomeOf, Means, WaysFit, is_filling, is_filling_by}
use Rattle.tl_bank_laws.proofs.Dues.{Acts}
use Rattle.tl_bank_laws.proofs.Next.{block_next, blocks-next, means-next, next_view, registers-next}
use Rattle.tl_bank_laws.proofs.Orders.{order-transfers}
use Rattle.tl_bank_laws.proofs.Pending.{home-holds-on}
use Rattle.tl_bank_laws.proofs.Pointwise.{entries-next, homes-next, left}
use Rattle.tl_bank_laws.proofs.SendProbe.{field-put}
use Rattle.tl_bank_laws.proofs.Slots.{lies-slot, slot-lies, slots-in, slots-length, slots-some, some-is}
use Rattle.tl_bank_laws.proofs.Ways.{SameLies, bank-steady, each-holds-stay, same-work, slot-stays, slots-stay}

-- what a Grant shows of the bank before it
pub record Gives (v : View) (own c : ℕ) (acquire : Accepted) (cap : GrantCap) (bytes : Option (List ℕ)) : Type 0 where
  pub accepted : (end_at v own).accepted ≡ Some acquire
  pub cap_is : cap ≡ granted (shape_of v.geometry) (end_at v own) acquire
  pub bytes_is : bytes ≡ grant_bytes (client_at v c own).recorded (home_bytes (end_at v own).home)

-- what became of home
pub record Granted (old new : HomeState) (own c : ℕ) (cap : GrantCap) : Type 0 where
  pub bank : SameBank old new
  pub lines : (b : ℕ) → line_in new b ≡ line_in old b
  pub recorded : (x b : ℕ) → recorded_in new x b ≡ (if x == c && b == own then grant_perm cap else recorded_in old x b)
  pub ways : (b : ℕ) → way_in new b ≡ way_in old b
  pub free : (set way : ℕ) → free_at new set way ≡ free_at old set way
  pub orders :
      (set : ℕ) → order_at new set
      ≡ (if set == set_of (geometry_in old) own then order_after (way_in old own) (order_at old set) else order_at old set)
  pub outward : SameOutward old new
  pub memory : SameMemory old new

-- ## What the others are recorded for

-- of two Acquires that home serves of a block the one is the other
one-acquire : (x y : Accepted) → Some x ≡ Some y → x ≡ y
one-acquire x y h = cc

-- the Grant leaves the others what it has room for
room-for : (v : View) (own c : ℕ) (acquire : Accepted) (cap : GrantCap) (bytes : Option (List ℕ)) → Acts v own (Grant c)
    → Gives v own c acquire cap bytes → RoomFor (shape_of v.geometry) (end_at v own) c cap
room-for v own c acquire cap bytes acts gives =
    let shape = shape_of v.geometry in
    let s : Block = end_at v own in
    let asked : Accepted = record { client = c; grow = acts.may.1.1.0.0 } in
    let same : asked ≡ acquire = one-acquire asked acquire (sym acts.may.1.1.0.1 ∙ gives.accepted) in
    let cap_is : granted shape s asked ≡ cap = ap (granted shape s) same ∙ sym gives.cap_is in
    subst (λ (k : GrantCap). RoomFor shape s c k) cap_is acts.may.1.1.0.2

-- a client that is not there is recorded None
recorded-outside : (shape : Shape) (s : Block) → IsServiceAt shape s → (x : ℕ) → shape.clients ≤ x → (s.client x).recorded ≡ p_None
recorded-outside shape s kept x l = ap (λ (k : Client). k.recorded) (kept.outside x (λ m. absurd (omega (arith, l, m))))

-- where there is room for a Grant of Tip, each other client is recorded None
tip-room : (shape : Shape) (s : Block) (c : ℕ) (cap : GrantCap) → IsServiceAt shape s → RoomFor shape s c cap → grant_perm cap ≡ Tip
    → (x : ℕ) → x ≢ c → (s.client x).recorded ≡ p_None
tip-room shape s c ToT kept room is x ne =
    elim (cases_lt x shape.clients) [ inl l ↦ room x l ne | inr l ↦ recorded-outside shape s kept x l ]
tip-room shape s c ToB kept room is x ne = cc

-- where there is room for a Grant of Branch, no client is recorded Tip
branch-room : (shape : Shape) (s : Block) (c : ℕ) (cap : GrantCap) → IsServiceAt shape s → RoomFor shape s c cap → grant_perm cap ≡ Branch
    → (x : ℕ) → (s.client x).recorded ≢ Tip
branch-room shape s c ToT kept room is x = cc
branch-room shape s c ToB kept room is x =
    elim (cases_lt x shape.clients) [
      | inl l ↦ room x l
      | inr l ↦ λ tip. let bad : p_None ≡ Tip = sym (recorded-outside shape s kept x l) ∙ tip in cc
    ]

-- beside Tip nobody else is recorded
pub grant-tip : (v : View) (h : Layers) (own c : ℕ) (acquire : Accepted) (cap : GrantCap) (bytes : Option (List ℕ)) → Means v h
    → Acts v own (Grant c) → Gives v own c acquire cap bytes → grant_perm cap ≡ Tip → (x : ℕ) → x ≢ c → recorded_in h.home x own ≡ p_None
grant-tip v h own c acquire cap bytes m acts gives is x ne =
    (m.home own acts.is_own).recorded x
    ∙ tip-room (shape_of v.geometry) (end_at v own) c cap ((bank-steady v h m).service own)
    (room-for v own c acquire cap bytes acts gives) is x ne

-- and beside Branch nobody for Tip
pub grant-branch : (v : View) (h : Layers) (own c : ℕ) (acquire : Accepted) (cap : GrantCap) (bytes : Option (List ℕ)) → Means v h
    → Acts v own (Grant c) → Gives v own c acquire cap bytes → grant_perm cap ≡ Branch → (x : ℕ) → recorded_in h.home x own ≢ Tip
grant-branch v h own c acquire cap bytes m acts gives is x = λ tip.
    branch-room (shape_of v.geometry) (end_at v own) c cap ((bank-steady v h m).service own)
    (room-for v own c acquire cap bytes acts gives) is x (sym ((m.home own acts.is_own).recorded x) ∙ tip)

-- home holds the block
pub grant-held : (v : View) (h : Layers) (own c : ℕ) → Means v h → Acts v own (Grant c) → IsSome (line_in h.home own)
grant-held v h own c m acts =
    let held : line_in h.home own ≡ Some acts.may.1.1.1.0 = (m.home own acts.is_own).line ∙ acts.may.1.1.1.1 in rw held refl

-- ## What the event leaves

-- the event leaves the block as it was, but for the client to which this Grant is sent
left-is : (v : View) (own c : ℕ) (acquire : Accepted) (cap : GrantCap) (bytes : Option (List ℕ)) → Gives v own c acquire cap bytes
    → left v (SendGrant c own)
    ≡ with_client (end_at v own) c (sent_grant (client_at v c own) cap (home_bytes (end_at v own).home))
left-is v own c acquire cap bytes gives =
    let s : Block = end_at v own in
    ap (λ (o : Option Accepted). grants (shape_of v.geometry) s c o) gives.accepted
    ∙ ap (λ (k : GrantCap). with_client s c (sent_grant (s.client c) k (home_bytes s.home))) (sym gives.cap_is)

-- the Grant that is sent
abbrev post-with : ℕ → GrantCap → Option (List ℕ) → Option Post
post-with c cap bytes = Some (record { client = c; channel = D; body = b_Downward (d_Grant cap bytes) })

-- what the event sends is that Grant
post-is : (v : View) (own c : ℕ) (acquire : Accepted) (cap : GrantCap) (bytes : Option (List ℕ)) → Gives v own c acquire cap bytes
    → grant_post (shape_of v.geometry) (end_at v own) c (end_at v own).accepted ≡ post-with c cap bytes
post-is v own c acquire cap bytes gives =
    let s : Block = end_at v own in
    ap (λ (o : Option Accepted). grant_post (shape_of v.geometry) s c o) gives.accepted
    ∙ ap (λ (k : GrantCap). post-with c k (grant_bytes (s.client c).recorded (home_bytes s.home))) (sym gives.cap_is)
    ∙ ap (λ (x : Option (List ℕ)). post-with c cap x) (sym gives.bytes_is)

-- what is recorded of the block then
recorded-then : (v : View) (h : Layers) (own c : ℕ) (cap : GrantCap) (bytes : List ℕ) (home : HomeState)
    → Granted h.home home own c cap → IsHomeOf h.home own (end_at v own) → (x : ℕ)
    → recorded_in home x own ≡ ((with_client (end_at v own) c (sent_grant (client_at v c own) cap bytes)).client x).recorded
recorded-then v h own c cap bytes home gave is x =
    let here : (own == own) ≡ true = eq-eqb own own refl in
    elim (cases_Bool (x == c)) [
      | inl t ↦ gave.recorded x own ∙ rw (t, here) refl
      | inr t ↦ gave.recorded x own ∙ rw t (is.recorded x)
    ]

-- ## Which ways fill

-- of each other block a Grant is pending just where one was
pending-other : (v : View) (c own room : ℕ) (ways : List (Option ℕ)) (b : ℕ) → b ≢ own
    → grant_pending (shape_of v.geometry) (end_at (next_view v (SendGrant c own) room v.registers ways) b)
    ≡ grant_pending (shape_of v.geometry) (end_at v b)
pending-other v c own room ways b ne =
    let t : (b == own) ≡ false = ne_eqb b own ne in
    let same : block_next v (SendGrant c own) b ≡ end_at v b = rw t refl in
    ap (λ (s : ℕ → Block). grant_pending (shape_of v.geometry) (s b)) (blocks-next v (SendGrant c own) room v.registers ways)
    ∙ ap (λ (s : Block). grant_pending (shape_of v.geometry) s) same

-- a way that a register of another block fills is filled on
fills-on : (v : View) (c own room : ℕ) (ways : List (Option ℕ)) (set way : ℕ) (xs : List Register)
    → AllByRecursion (λ r. r.own ≡ own → r.way.set ≡ set → r.way.way ≡ way → ⊥) xs
    → list_any (is_filling_by v set way) xs ≡ true
    → list_any (is_filling_by (next_view v (SendGrant c own) room v.registers ways) set way) xs ≡ true
fills-on v c own room ways set way [] other h = cc
fills-on v c own room ways set way (r ∷ rest) other h =
    let t : View = next_view v (SendGrant c own) room v.registers ways in
    elim (cases_Bool (is_filling_by v set way r)) [
      | inl e ↦
          let k = and_parts ((r.way.set == set) && (r.way.way == way)) _ e in
          let at = and_parts (r.way.set == set) (r.way.way == way) k.0 in
          let ne : r.own ≢ own = λ same. other.0 same (eqb-true r.way.set set at.0) (eqb-true r.way.way way at.1) in
          let none : grant_pending (shape_of v.geometry) (end_at v r.own) ≡ false =
          not-true (grant_pending (shape_of v.geometry) (end_at v r.own)) k.1 in
          let still : grant_pending (shape_of t.geometry) (end_at t r.own) ≡ false =
          pending-other v c own room ways r.own ne ∙ none in
          let now : is_filling_by t set way r ≡ true = rw (k.0, still) refl in
          rw now refl
      | inr e ↦
          let more = fills-on v c own room ways set way rest other.1 (or-else (is_filling_by v set way r) _ h e) in
          rw more (or-true (is_filling_by t set way r))
    ]

-- a register holds the way of its own block, where that lies
own-way : (v : View) (own w : ℕ) (r : Register) → HoldsWay v r → r.own ≡ own → way_at v own ≡ Some w
    → (set_of v.geometry own ≡ r.way.set) × (w ≡ r.way.way)
own-way v own w r holds is at =
    let on : works_on r own ≡ true = (let e = eq-eqb r.own own is in rw e refl) in
    ((holds.own own on).1, holds.lies own w on at)

-- ## The ways

-- the order of the block's own set then
own-order : (v : View) (h : Layers) (own c room w : ℕ) (ways : List (Option ℕ)) (set : ℕ) → WaysFit v h.home
    → IsOwn v.geometry v.number own → way_at v own ≡ Some w → set_of v.geometry own ≡ set → set < v.geometry.sets
    → IsInOrder (slots_at v set) (is_filling (next_view v (SendGrant c own) room v.registers ways) set)
    (v.log ++ SendGrant c own ∷ []) (touched w (order_at h.home set))
own-order v h own c room w ways set fit is_own at in_set l =
    let t : View = next_view v (SendGrant c own) room v.registers ways in
    let inside : w < v.geometry.ways = fit.inside own w is_own at in
    let long = slots-length v set in
    let slot : slot_at v set w ≡ Some own =
    lies-slot v set w own is_own in_set at (λ a own_a set_a at_a. fit.once a own w own_a is_own (set_a ∙ sym in_set) at_a at) in
    let once : StandsOnce (slots_at v set) own =
    λ x y at_x at_y.
    let kx = slots-some v set x own at_x in
    let ky = slots-some v set y own at_y in
    let lx : way_at v own ≡ Some x = (slot-lies v set x own kx.1).2 in
    let ly : way_at v own ≡ Some y = (slot-lies v set y own ky.1).2 in
    let same : Some y ≡ Some x = sym ly ∙ lx in cc in
    order-transfers (slots_at v set) (slots_at v set) (λ x. is_filling v set x && not (x == w)) (is_filling t set)
    (v.log ++ SendGrant c own ∷ []) (touched w (order_at h.home set)) refl
    (λ x b here fills. (
      here,
      elim (cases_Bool (x == w)) [
        | inl e ↦ rw e (and-false (is_filling v set x))
        | inr e ↦ elim (cases_Bool (is_filling v set x)) [
          | inr f ↦ rw f refl
          | inl f ↦
              let still = fills-on v c own room ways set x v.registers
              (each-follows (HoldsWay v) (λ r. r.own ≡ own → r.way.set ≡ set → r.way.way ≡ x → ⊥) v.registers
              (λ r holds is of_set of_way. eqb-false x w e (sym of_way ∙ sym (own-way v own w r holds is at).1)) fit.held) f in
              let bad : true ≡ false = sym still ∙ fills in cc
        ]
      ],
    ))
    (grant-keeps-order (slots_at v set) (is_filling v set) v.log (order_at h.home set) w own c (fit.orders set l)
    (omega (arith, inside, long)) (slots-in v set w inside ∙ slot) once)

-- and of each other set
other-order : (v : View) (h : Layers) (own c room w : ℕ) (ways : List (Option ℕ)) (set : ℕ) → WaysFit v h.home
    → way_at v own ≡ Some w → set_of v.geometry own ≢ set → set < v.geometry.sets
    → IsInOrder (slots_at v set) (is_filling (next_view v (SendGrant c own) room v.registers ways) set)
    (v.log ++ SendGrant c own ∷ []) (order_at h.home set)
other-order v h own c room w ways set fit at apart l =
    let t : View = next_view v (SendGrant c own) room v.registers ways in
    other-events-keep-order (slots_at v set) (is_filling t set) v.log (order_at h.home set) (SendGrant c own)
    (order-transfers (slots_at v set) (slots_at v set) (is_filling v set) (is_filling t set) v.log (order_at h.home set) refl
    (λ x b here fills. (
      here,
      elim (cases_Bool (is_filling v set x)) [
        | inr f ↦ f
        | inl f ↦
            let still = fills-on v c own room ways set x v.registers
            (each-follows (HoldsWay v) (λ r. r.own ≡ own → r.way.set ≡ set → r.way.way ≡ x → ⊥) v.registers
            (λ r holds is of_set of_way. apart ((own-way v own w r holds is at).0 ∙ of_set)) fit.held) f in
            let bad : true ≡ false = sym still ∙ fills in cc
      ],
    ))
    (fit.orders set l))
    (λ x b here. ne_eqb own b (λ same.
    let k = slots-some v set x b here in
    apart (ap (set_of v.geometry) same ∙ (slot-lies v set x b k.1).1)))

-- the order of each set then
order-then : (v : View) (h : Layers) (own c room w : ℕ) (ways : List (Option ℕ)) (cap : GrantCap) (home : HomeState) (set : ℕ)
    → Means v h → Granted h.home home own c cap → IsOwn v.geometry v.number own → way_at v own ≡ Some w → set < v.geometry.sets
    → IsInOrder (slots_at v set) (is_filling (next_view v (SendGrant c own) room v.registers ways) set)
    (v.log ++ SendGrant c own ∷ []) (order_at home set)
order-then v h own c room w ways cap home set m gave is_own at l =
    let t : View = next_view v (SendGrant c own) room v.registers ways in
    let P : List ℕ → Type 0 = λ order. IsInOrder (slots_at v set) (is_filling t set) t.log order in
    let lies : way_in h.home own ≡ Some w = sym (m.ways.shown own is_own.0) ∙ at in
    let is : order_at home set
    ≡ (if set == set_of v.geometry own then order_after (Some w) (order_at h.home set) else order_at h.home set) =
    gave.orders set
    ∙ ap (λ g. if set == set_of g own then order_after (way_in h.home own) (order_at h.home set) else order_at h.home set) m.home_geometry
    ∙ ap (λ (o : Option ℕ). if set == set_of v.geometry own then order_after o (order_at h.home set) else order_at h.home set) lies in
    subst P (sym is)
    (elim (cases_Bool (set == set_of v.geometry own)) [
      | inl e ↦
          let in_set : set_of v.geometry own ≡ set = sym (eqb-true set (set_of v.geometry own) e) in
          rw e (own-order v h own c room w ways set m.ways is_own at in_set l)
      | inr e ↦
          let apart : set_of v.geometry own ≢ set = λ same. eqb-false set (set_of v.geometry own) e (sym same) in
          rw e (other-order v h own c room w ways set m.ways at apart l)
    ])

-- The ways fit after a Grant.
grant-fits : (v : View) (h : Layers) (own c room w : ℕ) (ways : List (Option ℕ)) (cap : GrantCap) (home : HomeState)
    → Means v h → Granted h.home home own c cap → IsOwn v.geometry v.number own → way_at v own ≡ Some w
    → ((b : ℕ) → b < v.geometry.memory_blocks → slice_index_or ways b None ≡ way_in home b)
    → WaysFit (next_view v (SendGrant c own) room v.registers ways) home
grant-fits v h own c room w ways cap home m gave is_own at shown =
    let e = SendGrant c own in
    let t : View = next_view v e room v.registers ways in
    let fit = m.ways in
    let same : SameLies v ways = λ b l. shown b l ∙ gave.ways b ∙ sym (fit.shown b l) in
    record {
      shown = shown;
      inside = λ b x own_b lies. fit.inside b x own_b (sym (same b own_b.0) ∙ lies);
      once = λ a b x own_a own_b set_ab lies_a lies_b.
          fit.once a b x own_a own_b set_ab (sym (same a own_a.0) ∙ lies_a) (sym (same b own_b.0) ∙ lies_b);
      holds = λ b own_b.
          ap (λ (s : ℕ → Block). is_none (s b).home) (blocks-next v e room v.registers ways)
          ∙ home-holds-on (shape_of v.geometry) (end_at v) e b (bank-steady v h m) tt
          ∙ fit.holds b own_b ∙ ap (λ (o : Option ℕ). is_none o) (sym (same b own_b.0));
      free = λ set way l k.
          gave.free set way ∙ fit.free set way l k
          ∙ ap (λ (o : Option ℕ). is_none o) (sym (slot-stays v t.log room v.registers ways same set way));
      held = each-holds-stay v t.log room v.registers ways v.registers v.registers same (same-work v.registers) fit.held;
      apart = fit.apart;
      orders = λ set l.
          subst (λ (slots : List (Option ℕ)). IsInOrder slots (is_filling t set) t.log (order_at home set))
          (sym (slots-stay v t.log room v.registers ways same set))
          (order-then v h own c room w ways cap home set m gave is_own at l);
    }

-- ## The bank then

-- the bank is kept once the Grant is on D, and home records it and touches the block's way
pub grant-keeps : (v : View) (h : Layers) (own c : ℕ) (acquire : Accepted) (cap : GrantCap) (bytes : Option (List ℕ)) (room : ℕ)
    (ways : List (Option ℕ)) (links : LinkTable) (home : HomeState) → Means v h → Acts v own (Grant c) → Gives v own c acquire cap bytes
    → SameLinks h.links links
    → ((x : ℕ) (l : Channel) → lane_in links x l
    ≡ (if is_here c D x l then with_message (lane_in h.links x l) (record { block = own; body = b_Downward (d_Grant cap bytes) })
    else lane_in h.links x l))
    → Granted h.home home own c cap
    → ((b : ℕ) → b < v.geometry.memory_blocks → slice_index_or ways b None ≡ way_in home b)
    → Means (next_view v (SendGrant c own) room v.registers ways) (record h { links = links; home = home })
grant-keeps v h own c acquire cap bytes room ways links home m acts gives same_links sends gave shown =
    let shape = shape_of v.geometry in
    let e = SendGrant c own in
    let s : Block = end_at v own in
    let k : Client = sent_grant (s.client c) cap (home_bytes s.home) in
    let is : IsHomeOf h.home own s = m.home own acts.is_own in
    let leaves : left v e ≡ with_client s c k = left-is v own c acquire cap bytes gives in
    let held : is_none s.home ≡ false = ap (λ (o : Option Line). is_none o) acts.may.1.1.1.1 in
    let at = some-is (way_at v own) (sym (m.ways.holds own acts.is_own) ∙ held) in
    means-next v h (record h { links = links; home = home }) e room v.registers ways m
    (record { may = acts.may; first = tt; here = acts.bank; later = tt })
    (record {
      lanes = λ x l lt.
          sends x l ∙ ap (λ (p : Option Post). sent_to p own x l (lane_in h.links x l)) (sym (post-is v own c acquire cap bytes gives));
      copies = entries-next v h e m
          (λ x. ap (λ (b : Block). entry_of (b.client x)) leaves ∙ field-put entry_of s c k refl x);
      home = homes-next v h e home m
          (subst (λ (b : Block). IsHomeOf home own b) (sym leaves)
          (record {
            line = gave.lines own ∙ is.line;
            recorded = recorded-then v h own c cap (home_bytes s.home) home gave is;
            outward = gave.outward.outward own ∙ is.outward;
            memory = gave.memory own ∙ is.memory;
          }))
          (λ b ne was. record {
            line = gave.lines b ∙ was.line;
            recorded = λ x.
                gave.recorded x b
                ∙ (let t : (b == own) ≡ false = ne_eqb b own ne in
                let off : (x == c && b == own) ≡ false = rw t (and-false (x == c)) in
                rw off (was.recorded x));
            outward = gave.outward.outward b ∙ was.outward;
            memory = gave.memory b ∙ was.memory;
          });
      quiet = λ b apart. gave.outward.outward b;
      links_size = same_links;
      copies_size = record { bank = refl; limit = refl; blocks = refl; clients = refl };
      home_bank = gave.bank;
      limit = refl;
      clock = refl;
    })
    (registers-next v e room v.registers ways
    (granting-keeps-agreement shape (end_at v) v.registers c own m.registers.agree acts.may) m.registers.few)
    (grant-fits v h own c room at.0 ways cap home m gave acts.is_own at.1 shown)

-- home does not lack a block of which it has a copy
some-line : (o : Option Line) (line : Line) → o ≡ Some line → o ≢ None
some-line o line h = λ none. let bad : None ≡ Some line = sym none ∙ h in cc

-- home has a copy of the block that is to be granted
pub home-has : (v : View) (own c : ℕ) → Acts v own (Grant c) → (end_at v own).home ≢ None
home-has v own c acts = some-line (end_at v own).home acts.may.1.1.1.0 acts.may.1.1.1.1
