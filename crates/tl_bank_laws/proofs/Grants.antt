-- Taking a Grant, and what it leaves.
use Rattle.std.proofs.Common.{◌≡◌, ℕ, ◌<◌, ◌^◌, ◌-◌, ◌==◌, not, true, false, cond, length, List, [], ◌∷◌, ◌++◌, map, Option, None, if◌then◌else◌, refl, sym, ◌∙◌, ap, subst, eq-eqb}
use Rattle.std.proofs.lemmas.Bool.{or_parts}
use Rattle.tl_types.specs.Bodies.{is_a_grant}
use Rattle.tl_types.specs.Lane.{IsFirst, Lane, is_here, with_message, without_first, bodies_of}
use Rattle.tl_types.specs.declared.channel.Channel.{Channel}
use Rattle.tl_types.specs.declared.channel.Channel.TheVariants.{D, E}
use Rattle.tl_types.specs.declared.message.Body.{Body}
use Rattle.tl_types.specs.declared.message.Body.TheVariants.{Downward as b_Downward, GrantAck}
use Rattle.tl_types.specs.declared.message.Downward.{Downward}
use Rattle.tl_types.specs.declared.message.Downward.TheVariants.{Grant, ReleaseAck}
use Rattle.tl_types.specs.declared.message.Message.{Message}
use Rattle.tl_types.specs.declared.permission.GrantCap.{GrantCap}
use Rattle.tl_types.specs.declared.permission.Perm.{Perm}
use Rattle.tl_types.specs.declared.ticket.Ticket.{Ticket}
use Rattle.tl_types.specs.declared.wait.Awaited.{Awaited}
use Rattle.tl_types.specs.declared.wait.Awaited.TheVariants.{Nothing, ForGrant}
use Rattle.tl_protocol.specs.Client.{took_grant}
use Rattle.tl_protocol.specs.Copy.{perm_of}
use Rattle.tl_protocol.specs.Protocol.{is_none}
use Rattle.tl_protocol.specs.declared.client.Client.{Client}
use Rattle.tl_protocol.specs.declared.copy.CachedCopy.{CachedCopy}
use Rattle.tl_protocol.specs.declared.copy.CachedCopy.TheVariants.{Absent, Readable, Writable}
use Rattle.tl_protocol.specs.declared.event.Event.TheVariants.{TakeGrant}
use Rattle.tl_protocol.proofs.Pending.{every_run_keeps_messages}
use Rattle.tl_protocol_lanes.proofs.Logs.{first_heads_its_list}
use Rattle.tl_links.specs.Table.{LinkTable, lane_in, SameSize as SameLinks}
use Rattle.tl_copies.specs.Copies.{Tables, held_at, is_cell, SameSize as SameCopies}
use Rattle.tl_bank_spec.specs.Calls.{take_grant_cases}
use Rattle.tl_bank_spec.specs.Cases.{bad_share, block_named, first_block, link_full, no_client, other_share}
use Rattle.tl_bank_spec.specs.Refusal.{first_of}
use Rattle.tl_bank_spec.specs.Share.{ShareView, recount}
use Rattle.tl_bank_spec.specs.View.{View, shape_of, client_at, perm_at}
use Rattle.tl_bank_spec.specs.Own.{IsOwn}
use Rattle.tl_bank_spec.specs.Tables.{has_entry_for, is_waiting, copies_at}
use Rattle.tl_bank_spec.specs.Channels.{lane_at}
use Rattle.tl_bank_laws.specs.Entry.{HasPlace, entry_with}
use Rattle.tl_bank_laws.specs.Layers.{Layers}
use Rattle.tl_bank_laws.specs.Link.{HasRoom, IsHead}
use Rattle.tl_bank_laws.specs.Means.{Means}
use Rattle.tl_bank_laws.specs.Settled.{FindsGrant}
use Rattle.tl_bank_laws.proofs.Allowed.{AllFalse, all-false, client-is, share-is}
use Rattle.tl_bank_laws.proofs.Counts.{step-perm}
use Rattle.tl_bank_laws.proofs.Entries.{put-is}
use Rattle.tl_bank_laws.proofs.Heads.{HeadAllowed, head-allowed, head-first, head-own, is-head}
use Rattle.tl_bank_laws.proofs.Keep.{ClientStep, means-step}
use Rattle.tl_bank_laws.proofs.Places.{place-there}
use Rattle.tl_bank_laws.proofs.SendProbe.{channel-room}
use Rattle.tl_bank_laws.proofs.Shares.{share-count, share-enough}

-- ## The Grant that is there

-- where no refusal's case holds, the ticket names a Grant, first on D, and the share has the number of the client's copies
pub grant-allowed : (v : View) (t : Ticket) (share : ShareView) → first_of (take_grant_cases v t share) ≡ None
    → HeadAllowed v t D is_a_grant × (share.count ≡ copies_at v t.client)
grant-allowed v t share none =
    let f : AllFalse (take_grant_cases v t share) = all-false (take_grant_cases v t share) none in
    let range = or_parts (no_client v t.client) (bad_share v t.client share) f.0 in
    let place = or_parts (not (t.bank == v.number)) (other_share v share) f.1.0 in (
      head-allowed v t D is_a_grant (client-is v t.client range.0) place.0 f.1.1.0 f.1.1.1.1.0,
      share-is v t.client share range.1 place.1,
    )

-- a list on D whose first message is a Grant begins with it
grant-begins : (ds : List Downward) (zs : List Body) (cap : GrantCap) (bytes : Option (List ℕ))
    → map b_Downward ds ≡ b_Downward (Grant cap bytes) ∷ zs → (rest : List Downward) × (ds ≡ Grant cap bytes ∷ rest)
grant-begins [] zs cap bytes e = cc
grant-begins (Grant c b ∷ ds) zs cap bytes e = (ds, cc)
grant-begins (ReleaseAck ∷ ds) zs cap bytes e = cc

-- ## The step

-- what taking a Grant shows of the bank before it
pub record Takes (v : View) (t : Ticket) (share : ShareView) (block : ℕ) (before : Perm) (copy : CachedCopy) : Type 0 where
  pub allowed : first_of (take_grant_cases v t share) ≡ None
  pub finds : FindsGrant v t.client block before copy

-- a Grant that is found is of the block that the first message speaks of
pub grant-named : {v : View} {c block : ℕ} {before : Perm} {copy : CachedCopy} → FindsGrant v c block before copy
    → block ≡ first_block (lane_at v c D).messages
grant-named finds = sym (ap first_block finds.first.1)

-- and is found as well once there is room for the event
pub takes-with-room : (v old : View) (t : Ticket) (share : ShareView) (room block : ℕ) (before : Perm) (copy : CachedCopy)
    → v ≡ record old { room = room } → first_of (take_grant_cases old t share) ≡ None
    → FindsGrant old t.client block before copy → Takes v t share block before copy
takes-with-room v old t share room block before copy made none finds =
    subst (λ (w : View). Takes w t share block before copy) (sym made)
    (record {
      allowed = none;
      finds = record {
        cap = finds.cap;
        bytes = finds.bytes;
        first = finds.first;
        before_is = finds.before_is;
        copy_is = finds.copy_is;
      };
    })

-- the client's list on D begins with it
pub record Granted (v : View) (t : Ticket) (block : ℕ) (cap : GrantCap) (bytes : Option (List ℕ)) : Type 0 where
  pub rest : List Downward
  pub list : (client_at v t.client block).d ≡ Grant cap bytes ∷ rest

granted-is : (v : View) (h : Layers) (t : Ticket) (share : ShareView) (block : ℕ) (before : Perm) (copy : CachedCopy) → Means v h
    → (takes : Takes v t share block before copy) → Granted v t block takes.finds.cap takes.finds.bytes
granted-is v h t share block before copy m takes =
    let cap : GrantCap = takes.finds.cap in
    let bytes : Option (List ℕ) = takes.finds.bytes in
    let x : Message = record { block = block; body = b_Downward (Grant cap bytes) } in
    let list = grant-begins (client_at v t.client block).d (bodies_of block takes.finds.first.0) cap bytes
    (first_heads_its_list (shape_of v.geometry) v.image v.log t.client D x takes.finds.first.0 m.lawful takes.finds.first.1) in
    record { rest = list.0; list = list.1 }

-- the client's part of a block once it took that Grant
abbrev taken : (v : View) (t : Ticket) (block : ℕ) (cap : GrantCap) (bytes : Option (List ℕ)) → Granted v t block cap bytes → Client
taken v t block cap bytes g = took_grant (client_at v t.client block) (Grant cap bytes ∷ g.rest)

-- taking the Grant is a step of the client, which has that part of the block afterwards
grant-step : (v : View) (h : Layers) (t : Ticket) (share : ShareView) (block : ℕ) (cap : GrantCap) (bytes : Option (List ℕ)) → Means v h
    → first_of (take_grant_cases v t share) ≡ None → (g : Granted v t block cap bytes) → block ≡ block_named v t D
    → ClientStep v (TakeGrant t.client block) t.client (taken v t block cap bytes g)
grant-step v h t share block cap bytes m none g is =
    let ok = (grant-allowed v t share none).0 in
    let own : IsOwn v.geometry v.number block = subst (λ b. IsOwn v.geometry v.number b) (sym is) (head-own v h t D is_a_grant m ok) in
    record {
      may = (own.0, (ok.client, (cap, bytes, g.rest, g.list)));
      first = subst (λ b. IsFirst b (lane_at v t.client D).messages) (sym is) (head-first v t D is_a_grant ok);
      leaves = refl;
      leaves_registers = tt;
      here = own.1;
      later = tt;
      client = λ x. ap (λ (ds : List Downward). cond (x == t.client) (took_grant (client_at v t.client block) ds) (client_at v x block)) g.list;
      recorded = refl;
    }

-- a client that waits for a Grant has an entry
waiting-entry : (copy : CachedCopy) (wait : Awaited) → wait ≡ ForGrant → has_entry_for copy wait ≡ true
waiting-entry Absent wait e = ap is_waiting e
waiting-entry (Readable bytes) wait e = refl
waiting-entry (Writable bytes dirty) wait e = refl

-- the Grant heads its channel
pub grant-head : (v : View) (h : Layers) (t : Ticket) (share : ShareView) → Means v h → first_of (take_grant_cases v t share) ≡ None
    → IsHead h.links t
grant-head v h t share m none = is-head v h t D is_a_grant m (grant-allowed v t share none).0

-- channel E has a place for the GrantAck
pub grant-room : (v : View) (h : Layers) (t : Ticket) (share : ShareView) (between : LinkTable) → Means v h
    → first_of (take_grant_cases v t share) ≡ None → length v.log < 2 ^ 64 - 1 → SameLinks h.links between
    → ((x : ℕ) (l : Channel) → lane_in between x l
    ≡ (if is_here t.client t.channel x l then without_first (lane_in h.links x l) else lane_in h.links x l))
    → HasRoom between t.client E
grant-room v h t share between m none small same took =
    let ok = (grant-allowed v t share none).0 in
    let f : AllFalse (take_grant_cases v t share) = all-false (take_grant_cases v t share) none in
    let free : link_full v t.client E ≡ false = f.1.1.1.1.1.0 in
    let Took : Channel → Type 0 = λ k. (x : ℕ) (l : Channel) → lane_in between x l
    ≡ (if is_here t.client k x l then without_first (lane_in h.links x l) else lane_in h.links x l) in
    let from_d : Took D = subst Took ok.channel took in
    let elsewhere : is_here t.client D t.client E ≡ false = rw (eq-eqb t.client t.client refl) refl in
    let lane : lane_in between t.client E ≡ lane_in h.links t.client E =
    from_d t.client E
    ∙ ap (λ here. cond here (without_first (lane_in h.links t.client E)) (lane_in h.links t.client E)) elsewhere in
    let before : HasRoom h.links t.client E = channel-room v h t.client E m ok.client free small in
    record {
      client = rw same.clients before.client;
      place = rw lane before.place;
      counted = rw lane before.counted;
    }

-- so its table has a place for the copy that the Grant makes
pub grant-place : (v : View) (h : Layers) (t : Ticket) (share : ShareView) (block : ℕ) (before : Perm) (copy : CachedCopy) → Means v h
    → Takes v t share block before copy → HasPlace h.copies t.client block copy Nothing
grant-place v h t share block before copy m takes =
    let ok = (grant-allowed v t share takes.allowed).0 in
    let g = granted-is v h t share block before copy m takes in
    let own : IsOwn v.geometry v.number block =
    subst (λ b. IsOwn v.geometry v.number b) (sym (grant-named takes.finds)) (head-own v h t D is_a_grant m ok) in
    let k : Client = client_at v t.client block in
    let keeps = every_run_keeps_messages (shape_of v.geometry) v.image v.log m.lawful.run block t.client in
    let waits = (keeps.granted takes.finds.cap takes.finds.bytes g.rest g.list).0 in
    place-there v h t.client block copy Nothing m ok.client own.0 (λ need. waiting-entry k.held k.wait waits)

-- the bank is kept once the Grant is gone from D, its GrantAck is on E, and the copy is in the client's table
pub grant-keeps : (v : View) (h : Layers) (t : Ticket) (share : ShareView) (block : ℕ) (before : Perm) (copy : CachedCopy) (room : ℕ)
    (between links : LinkTable) (tables : Tables)
    → Means v h → Takes v t share block before copy → SameLinks h.links between
    → ((x : ℕ) (l : Channel) → lane_in between x l
    ≡ (if is_here t.client t.channel x l then without_first (lane_in h.links x l) else lane_in h.links x l))
    → SameLinks between links
    → ((x : ℕ) (l : Channel) → lane_in links x l
    ≡ (if is_here t.client E x l then with_message (lane_in between x l) (record { block = block; body = GrantAck })
    else lane_in between x l))
    → SameCopies h.copies tables
    → ((x y : ℕ) → held_at tables x y ≡ (if is_cell t.client block x y then entry_with copy Nothing else held_at h.copies x y))
    → Means (record v { log = v.log ++ TakeGrant t.client block ∷ []; room = room }) (record h { links = links; copies = tables })
grant-keeps v h t share block before copy room between links tables m takes first took second sends same after =
    let ok = (grant-allowed v t share takes.allowed).0 in
    let g = granted-is v h t share block before copy m takes in
    let Took : Channel → Type 0 = λ k. (x : ℕ) (l : Channel) → lane_in between x l
    ≡ (if is_here t.client k x l then without_first (lane_in h.links x l) else lane_in h.links x l) in
    let from_d : Took D = subst Took ok.channel took in
    means-step v h (record h { links = links; copies = tables }) (TakeGrant t.client block) t.client (taken v t block takes.finds.cap takes.finds.bytes g) room m
    (grant-step v h t share block takes.finds.cap takes.finds.bytes m takes.allowed g (grant-named takes.finds))
    (record {
      lanes = λ x l.
          sends x l
          ∙ ap (λ (lane : Lane). cond (is_here t.client E x l) (with_message lane (record { block = block; body = GrantAck })) lane)
          (from_d x l);
      copies =
          put-is h.copies tables t.client block copy (taken v t block takes.finds.cap takes.finds.bytes g).held Nothing Nothing
          takes.finds.copy_is refl after;
      links_size = record { bank = second.bank ∙ first.bank; clients = second.clients ∙ first.clients };
      copies_size = same;
      home = refl;
      limit = refl;
      clock = refl;
    })

-- ## The share

-- the share can lose the client's copy of the block, where there is one, and can gain one
pub grant-enough : (v : View) (h : Layers) (t : Ticket) (share : ShareView) (block : ℕ) (before : Perm) (copy : CachedCopy) → Means v h
    → Takes v t share block before copy → (is_none before ≡ false → 0 < share.count) × (share.count < 2 ^ 31)
grant-enough v h t share block before copy m takes =
    let both = grant-allowed v t share takes.allowed in
    let own : IsOwn v.geometry v.number block =
    subst (λ b. IsOwn v.geometry v.number b) (sym (grant-named takes.finds)) (head-own v h t D is_a_grant m both.0) in
    let enough = share-enough v t.client block share m.geometry own.0 both.1 in
    (λ some. enough.0 (sym (ap is_none takes.finds.before_is) ∙ some), enough.1)

-- the copy is what the client holds afterwards
pub grant-later : (v : View) (h : Layers) (t : Ticket) (share : ShareView) (block : ℕ) (before : Perm) (copy : CachedCopy) (room : ℕ)
    → Means v h → Takes v t share block before copy
    → perm_of copy ≡ perm_at (record v { log = v.log ++ TakeGrant t.client block ∷ []; room = room }) t.client block
grant-later v h t share block before copy room m takes =
    let g = granted-is v h t share block before copy m takes in
    ap perm_of takes.finds.copy_is
    ∙ sym (step-perm v (TakeGrant t.client block) t.client (taken v t block takes.finds.cap takes.finds.bytes g) room
    (grant-step v h t share block takes.finds.cap takes.finds.bytes m takes.allowed g (grant-named takes.finds)))

-- and the share counts the client's copies afterwards
pub grant-count : (v : View) (h : Layers) (t : Ticket) (share : ShareView) (block : ℕ) (before : Perm) (copy : CachedCopy) (room : ℕ)
    → Means v h → Takes v t share block before copy
    → recount before (perm_of copy) share.count ≡ copies_at (record v { log = v.log ++ TakeGrant t.client block ∷ []; room = room }) t.client
grant-count v h t share block before copy room m takes =
    let both = grant-allowed v t share takes.allowed in
    let g = granted-is v h t share block before copy m takes in
    share-count v (TakeGrant t.client block) t.client (taken v t block takes.finds.cap takes.finds.bytes g) room share before (perm_of copy)
    (grant-step v h t share block takes.finds.cap takes.finds.bytes m takes.allowed g (grant-named takes.finds)) both.1 takes.finds.before_is
    (ap perm_of takes.finds.copy_is)
