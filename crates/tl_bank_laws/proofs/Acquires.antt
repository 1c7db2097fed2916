-- An Acquire, and what it leaves.
use Rattle.std.proofs.Common.{◌≡◌, ℕ, true, [], ◌∷◌, ◌++◌, None, Some, if◌then◌else◌, refl}
use Rattle.tl_types.specs.Lane.{is_here, with_message}
use Rattle.tl_types.specs.declared.channel.Channel.{Channel}
use Rattle.tl_types.specs.declared.channel.Channel.TheVariants.{A}
use Rattle.tl_types.specs.declared.message.Body.TheVariants.{AcquireBlock}
use Rattle.tl_types.specs.declared.permission.Grow.{Grow}
use Rattle.tl_types.specs.declared.wait.Awaited.TheVariants.{ForGrant}
use Rattle.tl_protocol.specs.Client.{sent_acquire}
use Rattle.tl_protocol.specs.declared.client.Client.{Client}
use Rattle.tl_protocol.specs.declared.copy.CachedCopy.{CachedCopy}
use Rattle.tl_protocol.specs.declared.copy.CachedCopy.TheVariants.{Absent, Readable, Writable}
use Rattle.tl_protocol.specs.declared.event.Event.TheVariants.{SendAcquire}
use Rattle.tl_links.specs.Table.{LinkTable, lane_in, SameSize as SameLinks}
use Rattle.tl_copies.specs.Copies.{Tables, held_at, is_cell, SameSize as SameCopies}
use Rattle.tl_copies.specs.Held.{waiting}
use Rattle.tl_bank_spec.specs.Calls.{acquire_cases}
use Rattle.tl_bank_spec.specs.Refusal.{first_of}
use Rattle.tl_bank_spec.specs.View.{View, client_at}
use Rattle.tl_bank_spec.specs.Tables.{has_entry_for}
use Rattle.tl_bank_laws.specs.Entry.{HasPlace, entry_with}
use Rattle.tl_bank_laws.specs.Layers.{Layers}
use Rattle.tl_bank_laws.specs.Means.{Means}
use Rattle.tl_bank_laws.proofs.Allowed.{AcquireAllowed, acquire-allowed}
use Rattle.tl_bank_laws.proofs.Entries.{put-is, waits-is}
use Rattle.tl_bank_laws.proofs.Keep.{means-step}
use Rattle.tl_bank_laws.proofs.Places.{place-free}

-- where no refusal's case holds, the client's table has a place for a copy that waits for its Grant
pub acquire-place : (v : View) (h : Layers) (c b : ℕ) (grow : Grow) (copy : CachedCopy) → Means v h
    → first_of (acquire_cases v c b grow) ≡ None → HasPlace h.copies c b copy ForGrant
acquire-place v h c b grow copy m none =
    let ok : AcquireAllowed v c b grow = acquire-allowed v c b grow none in
    place-free v h c b copy ForGrant m ok.client ok.block ok.place

-- so it has one for the copy that the client has, whatever that is
pub acquire-room : (v : View) (h : Layers) (c b : ℕ) (grow : Grow) → Means v h
    → first_of (acquire_cases v c b grow) ≡ None → HasPlace h.copies c b (Readable []) ForGrant
acquire-room v h c b grow m none = acquire-place v h c b grow (Readable []) m none

-- while a client waits for a Grant its table has an entry
has_entry-granted : (copy : CachedCopy) → has_entry_for copy ForGrant ≡ true
has_entry-granted Absent = refl
has_entry-granted (Readable bytes) = refl
has_entry-granted (Writable bytes dirty) = refl

-- the tables once the client waits for its Grant
pub acquire-waits : (v : View) (h : Layers) (new : Tables) (c b : ℕ) (grow : Grow) → Means v h
    → first_of (acquire_cases v c b grow) ≡ None
    → ((x y : ℕ) → held_at new x y
    ≡ (if is_cell c b x y then Some (waiting ForGrant (held_at h.copies c b)) else held_at h.copies x y))
    → (x y : ℕ) → held_at new x y
    ≡ (if is_cell c b x y then entry_with (client_at v c b).held ForGrant else held_at h.copies x y)
acquire-waits v h new c b grow m none after =
    let ok : AcquireAllowed v c b grow = acquire-allowed v c b grow none in
    waits-is v h new c b ForGrant m ok.client ok.block (has_entry-granted (client_at v c b).held) after

-- what an Acquire shows of the bank before it
pub record Asks (v : View) (c b : ℕ) (grow : Grow) (copy : CachedCopy) : Type 0 where
  pub allowed : first_of (acquire_cases v c b grow) ≡ None
  pub copy_is : copy ≡ (client_at v c b).held

-- the bank is kept once the Acquire is on A, and the client's entry waits for the Grant
pub acquire-keeps : (v : View) (h : Layers) (c b : ℕ) (grow : Grow) (copy : CachedCopy) (room : ℕ) (links : LinkTable) (tables : Tables)
    → Means v h → Asks v c b grow copy → SameLinks h.links links
    → ((x : ℕ) (l : Channel) → lane_in links x l
    ≡ (if is_here c A x l then with_message (lane_in h.links x l) (record { block = b; body = AcquireBlock grow })
    else lane_in h.links x l))
    → SameCopies h.copies tables
    → ((x y : ℕ) → held_at tables x y ≡ (if is_cell c b x y then entry_with copy ForGrant else held_at h.copies x y))
    → Means (record v { log = v.log ++ SendAcquire c b grow ∷ []; room = room }) (record h { links = links; copies = tables })
acquire-keeps v h c b grow copy room links tables m asks same_links sends same after =
    let k : Client = client_at v c b in
    let ok : AcquireAllowed v c b grow = acquire-allowed v c b grow asks.allowed in
    means-step v h (record h { links = links; copies = tables }) (SendAcquire c b grow) c (sent_acquire k grow) room m
    (record {
      may = (ok.block, (ok.client, (ok.wait, ok.from)));
      first = tt;
      leaves = refl;
      leaves_registers = tt;
      here = ok.here;
      later = tt;
      client = λ x. refl;
      recorded = refl;
    })
    (record {
      lanes = sends;
      copies = put-is h.copies tables c b copy k.held ForGrant ForGrant asks.copy_is refl after;
      links_size = same_links;
      copies_size = same;
      home = refl;
      limit = refl;
      clock = refl;
    })
