-- Taking a ReleaseAck, and what it leaves.
use Rattle.std.proofs.Common.{◌≡◌, ℕ, true, List, [], ◌∷◌, ◌++◌, map, None, if◌then◌else◌, refl, sym, ◌∙◌, ap, subst}
use Rattle.tl_types.specs.Lane.{is_here, without_first, bodies_of}
use Rattle.tl_types.specs.declared.channel.Channel.{Channel}
use Rattle.tl_types.specs.declared.channel.Channel.TheVariants.{D}
use Rattle.tl_types.specs.declared.message.Body.{Body}
use Rattle.tl_types.specs.declared.message.Body.TheVariants.{AcquireBlock, ProbeBlock, Upward as b_Upward, Downward as b_Downward, GrantAck}
use Rattle.tl_types.specs.declared.message.Downward.{Downward}
use Rattle.tl_types.specs.declared.message.Downward.TheVariants.{Grant, ReleaseAck}
use Rattle.tl_types.specs.declared.ticket.Ticket.{Ticket}
use Rattle.tl_types.specs.declared.wait.Awaited.{Awaited}
use Rattle.tl_types.specs.declared.wait.Awaited.TheVariants.{Nothing}
use Rattle.tl_protocol.specs.Client.{MayTakeReleaseAck, took_release_ack}
use Rattle.tl_protocol.specs.declared.client.Client.{Client}
use Rattle.tl_protocol.specs.declared.copy.CachedCopy.{CachedCopy}
use Rattle.tl_protocol.specs.declared.copy.CachedCopy.TheVariants.{Absent, Readable, Writable}
use Rattle.tl_protocol.specs.declared.event.Event.TheVariants.{TakeReleaseAck}
use Rattle.tl_links.specs.Table.{LinkTable, lane_in, SameSize as SameLinks}
use Rattle.tl_copies.specs.Copies.{Tables, held_at, is_cell, SameSize as SameCopies}
use Rattle.tl_bank_spec.specs.Calls.{take_release_ack_cases}
use Rattle.tl_bank_spec.specs.Cases.{block_named, is_a_release_ack}
use Rattle.tl_bank_spec.specs.Refusal.{first_of}
use Rattle.tl_bank_spec.specs.View.{View, client_at}
use Rattle.tl_bank_spec.specs.Own.{IsOwn}
use Rattle.tl_bank_spec.specs.Tables.{has_entry_for}
use Rattle.tl_bank_laws.specs.Entry.{HasPlace, ended, entry_with}
use Rattle.tl_bank_laws.specs.Layers.{Layers}
use Rattle.tl_bank_laws.specs.Means.{Means}
use Rattle.tl_bank_laws.proofs.Allowed.{AllFalse, all-false, client-is}
use Rattle.tl_bank_laws.proofs.Entries.{ended-is, put-is}
use Rattle.tl_bank_laws.proofs.Heads.{HeadAllowed, head-allowed, head-first, head-list, head-own}
use Rattle.tl_bank_laws.proofs.Keep.{means-step}
use Rattle.tl_bank_laws.proofs.Places.{place-there}

-- where no refusal's case holds, the ticket names a ReleaseAck, first on D
pub ack-allowed : (v : View) (t : Ticket) → first_of (take_release_ack_cases v t) ≡ None → HeadAllowed v t D is_a_release_ack
ack-allowed v t none =
    let f : AllFalse (take_release_ack_cases v t) = all-false (take_release_ack_cases v t) none in
    head-allowed v t D is_a_release_ack (client-is v t.client f.0) f.1.0 f.1.1.0 f.1.1.1.1.0

-- a message that is found to be a ReleaseAck is one
ack-body : (body : Body) → is_a_release_ack body ≡ true → body ≡ b_Downward ReleaseAck
ack-body (AcquireBlock grow) h = cc
ack-body (ProbeBlock cap) h = cc
ack-body (b_Upward message) h = cc
ack-body (b_Downward (Grant cap bytes)) h = cc
ack-body (b_Downward ReleaseAck) h = refl
ack-body GrantAck h = cc

-- a list on D whose first message is a ReleaseAck begins with one
ack-begins : (ds : List Downward) (zs : List Body) → map b_Downward ds ≡ b_Downward ReleaseAck ∷ zs
    → (rest : List Downward) × (ds ≡ ReleaseAck ∷ rest)
ack-begins [] zs e = cc
ack-begins (Grant cap bytes ∷ ds) zs e = cc
ack-begins (ReleaseAck ∷ ds) zs e = (ds, refl)

-- the first message on D of its block is a ReleaseAck
pub ack-may : (v : View) (h : Layers) (t : Ticket) → Means v h → HeadAllowed v t D is_a_release_ack
    → MayTakeReleaseAck (client_at v t.client (block_named v t D))
ack-may v h t m ok =
    ack-begins (client_at v t.client (block_named v t D)).d (bodies_of ok.first.0.block ok.first.1)
    (head-list v h t D is_a_release_ack m ok
    ∙ ap (λ (b : Body). b ∷ bodies_of ok.first.0.block ok.first.1) (ack-body ok.first.0.body ok.first.3))

-- a copy that has an entry while its client waits for nothing has one whatever it waits for
fewer-entries : (copy : CachedCopy) (wait : Awaited) → has_entry_for copy Nothing ≡ true → has_entry_for copy wait ≡ true
fewer-entries Absent wait h = cc
fewer-entries (Readable bytes) wait h = refl
fewer-entries (Writable bytes dirty) wait h = refl

-- what taking a ReleaseAck shows of the bank before it
pub record Acks (v : View) (t : Ticket) (block : ℕ) (copy : CachedCopy) : Type 0 where
  pub allowed : first_of (take_release_ack_cases v t) ≡ None
  pub block_is : block ≡ block_named v t D
  pub copy_is : copy ≡ (client_at v t.client block).held

-- the block is one of this bank
pub ack-own : (v : View) (h : Layers) (t : Ticket) → Means v h → first_of (take_release_ack_cases v t) ≡ None
    → IsOwn v.geometry v.number (block_named v t D)
ack-own v h t m none = head-own v h t D is_a_release_ack m (ack-allowed v t none)

-- so the client's table has a place for its copy, once it waits for nothing
pub ack-place : (v : View) (h : Layers) (t : Ticket) (block : ℕ) (copy : CachedCopy) → Means v h → Acks v t block copy
    → HasPlace h.copies t.client block copy Nothing
ack-place v h t block copy m acks =
    let ok = ack-allowed v t acks.allowed in
    let own : IsOwn v.geometry v.number block =
    let P : ℕ → Type 0 = λ b. IsOwn v.geometry v.number b in subst P (sym acks.block_is) (ack-own v h t m acks.allowed) in
    place-there v h t.client block copy Nothing m ok.client own.0
    (λ need. fewer-entries (client_at v t.client block).held (client_at v t.client block).wait
    (let P : CachedCopy → Type 0 = λ p. has_entry_for p Nothing ≡ true in subst P acks.copy_is need))

-- the tables once the client waits for nothing
pub ack-ends : (v : View) (h : Layers) (new : Tables) (t : Ticket) (block : ℕ) (copy : CachedCopy) → Means v h → Acks v t block copy
    → ((x y : ℕ) → held_at new x y
    ≡ (if is_cell t.client block x y then ended (held_at h.copies t.client block) else held_at h.copies x y))
    → (x y : ℕ) → held_at new x y
    ≡ (if is_cell t.client block x y then entry_with (client_at v t.client block).held Nothing else held_at h.copies x y)
ack-ends v h new t block copy m acks after =
    let ok = ack-allowed v t acks.allowed in
    let own : IsOwn v.geometry v.number block =
    let P : ℕ → Type 0 = λ b. IsOwn v.geometry v.number b in subst P (sym acks.block_is) (ack-own v h t m acks.allowed) in
    ended-is v h new t.client block m ok.client own.0 after

-- the bank is kept, told with the very block that the ticket's message speaks of
ack-core : (v : View) (h : Layers) (t : Ticket) (copy : CachedCopy) (room : ℕ) (links : LinkTable) (tables : Tables)
    → Means v h → first_of (take_release_ack_cases v t) ≡ None → copy ≡ (client_at v t.client (block_named v t D)).held
    → SameLinks h.links links
    → ((x : ℕ) (l : Channel) → lane_in links x l
    ≡ (if is_here t.client D x l then without_first (lane_in h.links x l) else lane_in h.links x l))
    → SameCopies h.copies tables
    → ((x y : ℕ) → held_at tables x y
    ≡ (if is_cell t.client (block_named v t D) x y then entry_with copy Nothing else held_at h.copies x y))
    → Means (record v { log = v.log ++ TakeReleaseAck t.client (block_named v t D) ∷ []; room = room })
    (record h { links = links; copies = tables })
ack-core v h t copy room links tables m none copy_is same_links takes same after =
    let block : ℕ = block_named v t D in
    let k : Client = client_at v t.client block in
    let ok = ack-allowed v t none in
    let own = ack-own v h t m none in
    means-step v h (record h { links = links; copies = tables }) (TakeReleaseAck t.client block) t.client (took_release_ack k) room m
    (record {
      may = (own.0, (ok.client, ack-may v h t m ok));
      first = head-first v t D is_a_release_ack ok;
      leaves = refl;
      leaves_registers = tt;
      here = own.1;
      later = tt;
      client = λ x. refl;
      recorded = refl;
    })
    (record {
      lanes = takes;
      copies = put-is h.copies tables t.client block copy k.held Nothing Nothing copy_is refl after;
      links_size = same_links;
      copies_size = same;
      home = refl;
      limit = refl;
      clock = refl;
    })

-- the bank is kept once the ReleaseAck is gone from D, and the client waits for nothing
pub ack-keeps : (v : View) (h : Layers) (t : Ticket) (block : ℕ) (copy : CachedCopy) (room : ℕ) (links : LinkTable) (tables : Tables)
    → Means v h → Acks v t block copy → SameLinks h.links links
    → ((x : ℕ) (l : Channel) → lane_in links x l
    ≡ (if is_here t.client t.channel x l then without_first (lane_in h.links x l) else lane_in h.links x l))
    → SameCopies h.copies tables
    → ((x y : ℕ) → held_at tables x y ≡ (if is_cell t.client block x y then entry_with copy Nothing else held_at h.copies x y))
    → Means (record v { log = v.log ++ TakeReleaseAck t.client block ∷ []; room = room }) (record h { links = links; copies = tables })
ack-keeps v h t block copy room links tables m acks same_links takes same after =
    let ok = ack-allowed v t acks.allowed in
    let Takes : Channel → Type 0 = λ k. (x : ℕ) (l : Channel) → lane_in links x l
    ≡ (if is_here t.client k x l then without_first (lane_in h.links x l) else lane_in h.links x l) in
    let After : ℕ → Type 0 = λ b. (x y : ℕ) → held_at tables x y
    ≡ (if is_cell t.client b x y then entry_with copy Nothing else held_at h.copies x y) in
    let Result : ℕ → Type 0 = λ b. Means (record v { log = v.log ++ TakeReleaseAck t.client b ∷ []; room = room })
    (record h { links = links; copies = tables }) in
    subst Result (sym acks.block_is)
    (ack-core v h t copy room links tables m acks.allowed
    (acks.copy_is ∙ ap (λ b. (client_at v t.client b).held) acks.block_is)
    same_links (subst Takes ok.channel takes) same (subst After acks.block_is after))
