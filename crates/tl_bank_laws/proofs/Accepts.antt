-- A register opens for an Acquire that home accepts, and what it leaves.
use Rattle.std.proofs.Common.{◌≡◌, ℕ, ◌==◌, ◌&&◌, not, Bool, true, false, List, [], ◌∷◌, ◌++◌, map, Option, None, is_none, if◌then◌else◌, refl, sym, ◌∙◌, ap, subst, inl, inr, eqb-true}
use Rattle.std.proofs.lemmas.Bool.{cases_Bool, or_parts}
use Rattle.tl_map.proofs.LimitLaws.{few_clients}
use Rattle.tl_types.specs.Lane.{is_here, without_first, bodies_of}
use Rattle.tl_types.specs.declared.channel.Channel.{Channel}
use Rattle.tl_types.specs.declared.channel.Channel.TheVariants.{A}
use Rattle.tl_types.specs.declared.message.Body.{Body}
use Rattle.tl_types.specs.declared.message.Body.TheVariants.{AcquireBlock}
use Rattle.tl_types.specs.declared.message.Message.{Message}
use Rattle.tl_types.specs.declared.permission.Grow.{Grow}
use Rattle.tl_types.specs.declared.ticket.Ticket.{Ticket}
use Rattle.tl_map.specs.Places.{set_of}
use Rattle.tl_protocol.specs.Protocol.{Block, accepted_from}
use Rattle.tl_protocol.specs.declared.client.Client.{Client}
use Rattle.tl_protocol.specs.declared.event.Event.{Event}
use Rattle.tl_protocol.specs.declared.event.Event.TheVariants.{AcceptAcquire}
use Rattle.tl_links.specs.Table.{LinkTable, lane_in, SameSize as SameLinks}
use Rattle.tl_registers.specs.Pending.{grant_pending}
use Rattle.tl_registers.specs.Register.{acquire_task, opened}
use Rattle.tl_registers.specs.Registers.{is_busy}
use Rattle.tl_registers.specs.declared.register.Register.{Register}
use Rattle.tl_registers.proofs.Opening.{accepting-keeps-agreement}
use Rattle.tl_bank_spec.specs.Cases.{any_body, block_named, first_block}
use Rattle.tl_bank_spec.specs.HomeCalls.{accept_cases}
use Rattle.tl_bank_spec.specs.HomeCases.{lacks}
use Rattle.tl_bank_spec.specs.Refusal.{first_of}
use Rattle.tl_bank_spec.specs.View.{View, end_at, client_at, shape_of}
use Rattle.tl_bank_spec.specs.Own.{IsOwn, way_at}
use Rattle.tl_bank_spec.specs.Channels.{lane_at}
use Rattle.tl_bank_spec.specs.Ways.{IsWayFor, registers_full, slots_at, victim_of_way, way_in_set, ways_held}
use Rattle.tl_bank_home.specs.Homes.{order_at}
use Rattle.tl_bank_laws.specs.Entry.{entry_of}
use Rattle.tl_bank_laws.specs.Layers.{Layers}
use Rattle.tl_bank_laws.specs.Link.{IsHead}
use Rattle.tl_bank_laws.specs.Means.{Means, WaysFit, is_filling, is_filling_by}
use Rattle.tl_bank_laws.proofs.Allowed.{AllFalse, all-false, client-is}
use Rattle.tl_bank_laws.proofs.Evicts.{one-more}
use Rattle.tl_bank_laws.proofs.Heads.{HeadAllowed, head-allowed, head-first, head-list, head-own, is-head}
use Rattle.tl_bank_laws.proofs.Next.{NextEvent, NextLayers, block_next, blocks-next, means-next, registers-next}
use Rattle.tl_bank_laws.proofs.Opens.{MayHold, acquire-works-on, any-follows, free-victim, may-hold, new-holds, opened_view, ways-open}
use Rattle.tl_bank_laws.proofs.Orders.{order-next}
use Rattle.tl_bank_laws.proofs.Pending.{no-grant-comes, home-holds-on}
use Rattle.tl_bank_laws.proofs.Ways.{bank-steady}

-- ## The Acquire that is there

-- the ticket names the first message on A, no register works on its block, and not all registers are in use
pub record AcceptAllowed (v : View) (t : Ticket) : Type 0 where
  pub head : HeadAllowed v t A any_body
  pub free : is_busy (block_named v t A) v.registers ≡ false
  pub room : registers_full v ≡ false

-- so it is where no refusal's case holds
pub accept-allowed : (v : View) (t : Ticket) → first_of (accept_cases v t) ≡ None → AcceptAllowed v t
accept-allowed v t none =
    let f : AllFalse (accept_cases v t) = all-false (accept_cases v t) none in
    let block : ℕ = block_named v t A in
    let both = or_parts (registers_full v) (lacks v block && ways_held v (set_of v.geometry block)) f.1.1.1.1.1.1.0 in
    record {
      head = head-allowed v t A any_body (client-is v t.client f.0) f.1.0 f.1.1.0 f.1.1.1.1.0;
      free = f.1.1.1.1.1.0;
      room = both.0;
    }

-- a list of Acquires begins with what its first message asks for
acquire-begins : (xs : List Grow) (body : Body) (zs : List Body) → map AcquireBlock xs ≡ body ∷ zs
    → (grow : Grow) × (rest : List Grow) × (body ≡ AcquireBlock grow) × (xs ≡ grow ∷ rest)
acquire-begins [] body zs e = cc
acquire-begins (grow ∷ xs) body zs e = let h : body ≡ AcquireBlock grow = cc in (grow, xs, h, refl)

-- the first message on A is an Acquire, and the client's list of its block begins with what it asks for
pub record Asked (v : View) (t : Ticket) : Type 0 where
  pub grow : Grow
  pub waits : List Message
  pub first : (lane_at v t.client A).messages ≡ (record { block = block_named v t A; body = AcquireBlock grow }) ∷ waits
  pub rest : List Grow
  pub list : (client_at v t.client (block_named v t A)).a ≡ grow ∷ rest

-- so it does where the ticket names the first message on A
asked-is : (v : View) (h : Layers) (t : Ticket) → Means v h → HeadAllowed v t A any_body → Asked v t
asked-is v h t m ok =
    let x : Message = ok.first.0 in
    let asks = acquire-begins (client_at v t.client (block_named v t A)).a x.body (bodies_of x.block ok.first.1) (head-list v h t A any_body m ok) in
    let says : ℕ → Body → Message = λ block body. record { block = block; body = body } in
    let named : x.block ≡ block_named v t A = sym (ap first_block ok.first.2) in
    record {
      grow = asks.0;
      waits = ok.first.1;
      first =
          ok.first.2
          ∙ ap (λ (block : ℕ). says block x.body ∷ ok.first.1) named
          ∙ ap (λ (body : Body). says (block_named v t A) body ∷ ok.first.1) asks.2;
      rest = asks.1;
      list = asks.3;
    }

-- and where no refusal's case holds
pub accept-asked : (v : View) (h : Layers) (t : Ticket) → Means v h → first_of (accept_cases v t) ≡ None → Asked v t
accept-asked v h t m none = asked-is v h t m (accept-allowed v t none).head

-- the links have the ticket's message first, where no refusal's case holds
pub accept-head : (v : View) (h : Layers) (t : Ticket) → Means v h → first_of (accept_cases v t) ≡ None → IsHead h.links t
accept-head v h t m none = is-head v h t A any_body m (accept-allowed v t none).head

-- ## What the event leaves

-- of a client what the Acquires on A don't touch
accepted-field : {X : Type 0} (f : Client → X) → ((k : Client) (rest : List Grow) → f (record k { a = rest }) ≡ f k)
    → (s : Block) (c : ℕ) (a : List Grow) (x : ℕ) → f ((accepted_from s c a).client x) ≡ f (s.client x)
accepted-field f same s c [] x = refl
accepted-field f same s c (grow ∷ rest) x =
    elim (cases_Bool (x == c)) [
      | inl e ↦ rw e (same (s.client c) rest ∙ ap (λ (y : ℕ). f (s.client y)) (sym (eqb-true x c e)))
      | inr e ↦ rw e refl
    ]

-- the block is as it was, but for the Acquire that home serves and the channel A
pub record AcceptLeaves (s later : Block) : Type 0 where
  pub home : later.home ≡ s.home
  pub outward : later.outward ≡ s.outward
  pub memory : later.memory ≡ s.memory
  pub recorded : (x : ℕ) → (later.client x).recorded ≡ (s.client x).recorded
  pub entries : (x : ℕ) → entry_of (later.client x) ≡ entry_of (s.client x)

-- an Acquire that is accepted leaves home's copy
accepted-home : (s : Block) (c : ℕ) (a : List Grow) → (accepted_from s c a).home ≡ s.home
accepted-home s c [] = refl
accepted-home s c (grow ∷ rest) = refl

-- it leaves what passes between home and the memory
accepted-outward : (s : Block) (c : ℕ) (a : List Grow) → (accepted_from s c a).outward ≡ s.outward
accepted-outward s c [] = refl
accepted-outward s c (grow ∷ rest) = refl

-- it leaves the block's bytes in memory
accepted-memory : (s : Block) (c : ℕ) (a : List Grow) → (accepted_from s c a).memory ≡ s.memory
accepted-memory s c [] = refl
accepted-memory s c (grow ∷ rest) = refl

-- so home, which accepts a client's first Acquire, leaves so much of the block
accepted-leaves : (s : Block) (c : ℕ) (a : List Grow) → AcceptLeaves s (accepted_from s c a)
accepted-leaves s c a = record {
  home = accepted-home s c a;
  outward = accepted-outward s c a;
  memory = accepted-memory s c a;
  recorded = λ x. accepted-field (λ (k : Client). k.recorded) (λ k rest. refl) s c a x;
  entries = λ x. accepted-field entry_of (λ k rest. refl) s c a x;
}

-- so does the event, of its own block and of each other
next-leaves : (v : View) (c block b : ℕ) → AcceptLeaves (end_at v b) (block_next v (AcceptAcquire c block) b)
next-leaves v c block b =
    elim (cases_Bool (b == block)) [
      | inl e ↦ rw e (accepted-leaves (end_at v b) c ((end_at v b).client c).a)
      | inr e ↦ rw e (record { home = refl; outward = refl; memory = refl; recorded = λ x. refl; entries = λ x. refl })
    ]

-- what became of the layers, where the links lost the client's first message on A and the others are as they were
accept-layers : (v : View) (h : Layers) (c block : ℕ) (links : LinkTable) → Means v h → SameLinks h.links links
    → ((x : ℕ) (l : Channel) → lane_in links x l
    ≡ (if is_here c A x l then without_first (lane_in h.links x l) else lane_in h.links x l))
    → NextLayers v (AcceptAcquire c block) h (record h { links = links })
accept-layers v h c block links m same takes =
    record {
      lanes = λ x l k. takes x l;
      copies = λ x y k l. m.copies x y k l ∙ sym ((next-leaves v c block y).entries x);
      home = λ b own.
          let was = m.home b own in
          let now = next-leaves v c block b in
          record {
            line = was.line ∙ sym now.home;
            recorded = λ x. was.recorded x ∙ sym (now.recorded x);
            outward = was.outward ∙ sym now.outward;
            memory = was.memory ∙ sym now.memory;
          };
      quiet = λ b no. refl;
      links_size = same;
      copies_size = record { bank = refl; limit = refl; blocks = refl; clients = refl };
      home_bank = record { geometry = refl; bank = refl };
      limit = refl;
      clock = refl;
    }

-- ## The bank then

-- the register that opens
abbrev pub accepting : View → Ticket → ℕ → Grow → ℕ → Option ℕ → Register
accepting v t block grow way victim =
    opened block (way_in_set (set_of v.geometry block) way) (acquire_task (record { client = t.client; grow = grow }) victim)

-- what accepting an Acquire shows of the bank before it
pub record Accepting (v : View) (t : Ticket) (block : ℕ) (grow : Grow) (way : ℕ) (victim : Option ℕ) : Type 0 where
  pub allowed : first_of (accept_cases v t) ≡ None
  pub block_is : block ≡ block_named v t A
  pub asked : Asked v t
  pub grow_is : grow ≡ asked.grow
  pub way_is : IsWayFor v (set_of v.geometry block) (way_at v block) way
  pub victim_is : victim ≡ victim_of_way v (set_of v.geometry block) (way_at v block) way

-- a way that is held while no Grant is pending is so later, where none comes to be
fills-on : (t old new : Bool) → (old ≡ false → new ≡ false) → (t && not old) ≡ true → (t && not new) ≡ true
fills-on true true new f h = cc
fills-on true false new f h = rw (f refl) refl
fills-on false old new f h = cc

-- home may accept that Acquire next
accept-event : (v : View) (h : Layers) (t : Ticket) → Means v h → AcceptAllowed v t → Asked v t
    → NextEvent v (AcceptAcquire t.client (block_named v t A))
accept-event v h t m ok asked =
    let block : ℕ = block_named v t A in
    let own : IsOwn v.geometry v.number block = head-own v h t A any_body m ok.head in
    record {
      may = (own.0, (ok.head.client, (asked.grow, asked.rest, asked.list), (m.registers.agree.at_rest block ok.free).not_accepted));
      first = head-first v t A any_body ok.head;
      here = own.1;
      later = tt;
    }

-- the ways fit once the register is open, where it may hold its way
accept-ways : (v : View) (h : Layers) (t : Ticket) (block : ℕ) (grow : Grow) (way : ℕ) (victim : Option ℕ) (room : ℕ)
    → Means v h → MayHold v block way victim
    → WaysFit (opened_view v (v.log ++ AcceptAcquire t.client block ∷ []) room (accepting v t block grow way victim)) h.home
accept-ways v h t block grow way victim room m may =
    let set : ℕ = set_of v.geometry block in
    let e : Event = AcceptAcquire t.client block in
    let log : List Event = v.log ++ e ∷ [] in
    let r : Register = accepting v t block grow way victim in
    let later : View = opened_view v log room r in
    let shape = shape_of v.geometry in
    let after : end_at later ≡ block_next v e = blocks-next v e room (v.registers ++ r ∷ []) v.ways in
    let steady = bank-steady v h m in
    let pending : (b : ℕ) → grant_pending shape (end_at v b) ≡ false → grant_pending shape (end_at later b) ≡ false =
    λ b none. ap (λ (s : ℕ → Block). grant_pending shape (s b)) after ∙ no-grant-comes shape (end_at v) e b steady tt none in
    ways-open v h.home log room r m.ways
    (new-holds v block way (acquire_task (record { client = t.client; grow = grow }) victim) victim may
    (acquire-works-on block (way_in_set set way) (record { client = t.client; grow = grow }) victim))
    may.not_held
    (λ b. ap (λ (s : ℕ → Block). is_none (s b).home) after ∙ home-holds-on shape (end_at v) e b steady tt)
    (λ s l. order-next (slots_at v s) (is_filling v s) (is_filling later s) v.log (order_at h.home s) e tt
    (λ w b here filled. any-follows (is_filling_by v s w) (is_filling_by later s w) v.registers r
    (λ x f. fills-on ((x.way.set == s) && (x.way.way == w)) (grant_pending shape (end_at v x.own)) (grant_pending shape (end_at later x.own))
    (pending x.own) f)
    filled)
    (m.ways.orders s l))

-- the bank is kept, told with the very block, grow and victim that the ticket's message and the way give
accept-core : (v : View) (h : Layers) (t : Ticket) (way room : ℕ) (links : LinkTable) → Means v h → first_of (accept_cases v t) ≡ None
    → (asked : Asked v t) → IsWayFor v (set_of v.geometry (block_named v t A)) (way_at v (block_named v t A)) way → SameLinks h.links links
    → ((x : ℕ) (l : Channel) → lane_in links x l
    ≡ (if is_here t.client A x l then without_first (lane_in h.links x l) else lane_in h.links x l))
    → Means (opened_view v (v.log ++ AcceptAcquire t.client (block_named v t A) ∷ []) room
    (accepting v t (block_named v t A) asked.grow way
    (victim_of_way v (set_of v.geometry (block_named v t A)) (way_at v (block_named v t A)) way)))
    (record h { links = links })
accept-core v h t way room links m none asked way_is same takes =
    let block : ℕ = block_named v t A in
    let set : ℕ = set_of v.geometry block in
    let grow : Grow = asked.grow in
    let victim : Option ℕ = victim_of_way v set (way_at v block) way in
    let e : Event = AcceptAcquire t.client block in
    let shape = shape_of v.geometry in
    let ok : AcceptAllowed v t = accept-allowed v t none in
    let own : IsOwn v.geometry v.number block = head-own v h t A any_body m ok.head in
    let event : NextEvent v e = accept-event v h t m ok asked in
    let may : MayHold v block way victim = may-hold v h.home block way (way_at v block) m.ways own ok.free refl way_is in
    let r : Register = accepting v t block grow way victim in
    let agree = accepting-keeps-agreement shape (end_at v) v.registers t.client block grow asked.rest (way_in_set set way) victim
    (bank-steady v h m) m.registers.agree (few_clients v.geometry m.geometry) event.may asked.list ok.free
    (free-victim v h.home block way victim m.ways may) in
    means-next v h (record h { links = links }) e room (v.registers ++ r ∷ []) v.ways m event
    (accept-layers v h t.client block links m same takes)
    (registers-next v e room (v.registers ++ r ∷ []) v.ways agree (one-more v r ok.room))
    (accept-ways v h t block grow way victim room m may)

-- the Acquire is gone from its channel, and a register is open for it
pub accept-keeps : (v : View) (h : Layers) (t : Ticket) (block : ℕ) (grow : Grow) (way : ℕ) (victim : Option ℕ) (room : ℕ) (links : LinkTable)
    → Means v h → Accepting v t block grow way victim → SameLinks h.links links
    → ((x : ℕ) (l : Channel) → lane_in links x l
    ≡ (if is_here t.client t.channel x l then without_first (lane_in h.links x l) else lane_in h.links x l))
    → Means (opened_view v (v.log ++ AcceptAcquire t.client block ∷ []) room (accepting v t block grow way victim)) (record h { links = links })
accept-keeps v h t block grow way victim room links m a same takes =
    let ok = accept-allowed v t a.allowed in
    let Takes : Channel → Type 0 = λ k. (x : ℕ) (l : Channel) → lane_in links x l
    ≡ (if is_here t.client k x l then without_first (lane_in h.links x l) else lane_in h.links x l) in
    let Way : ℕ → Type 0 = λ b. IsWayFor v (set_of v.geometry b) (way_at v b) way in
    let Result : ℕ → Grow → Option ℕ → Type 0 = λ b g x.
    Means (opened_view v (v.log ++ AcceptAcquire t.client b ∷ []) room (accepting v t b g way x)) (record h { links = links }) in
    let VictimAt : ℕ → Option ℕ = λ b. victim_of_way v (set_of v.geometry b) (way_at v b) way in
    let core : Result (block_named v t A) a.asked.grow (VictimAt (block_named v t A)) =
    accept-core v h t way room links m a.allowed a.asked (subst Way a.block_is a.way_is) same (subst Takes ok.head.channel takes) in
    let at_block : Result block a.asked.grow (VictimAt block) =
    subst (λ (b : ℕ). Result b a.asked.grow (VictimAt b)) (sym a.block_is) core in
    let at_grow : Result block grow (VictimAt block) = subst (λ (g : Grow). Result block g (VictimAt block)) (sym a.grow_is) at_block in
    subst (λ (x : Option ℕ). Result block grow x) (sym a.victim_is) at_grow
