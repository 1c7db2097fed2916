-- A store: the copy that it leaves, and what becomes of the bank.
use Rattle.std.proofs.Common.{◌≡◌, ◌≢◌, ℕ, ◌+◌, ◌/◌, ◌%◌, if◌then◌else◌, List, [], ◌∷◌, ◌++◌, length, None, refl, ◌∙◌, ap, subst}
use Rattle.tl_types.specs.declared.permission.Perm.TheVariants.{None as p_None, Tip}
use Rattle.tl_types.specs.declared.wait.Awaited.{Awaited}
use Rattle.tl_protocol.specs.Copy.{perm_of, stored_in}
use Rattle.tl_protocol.specs.Client.{stored}
use Rattle.tl_protocol.specs.declared.client.Client.{Client}
use Rattle.tl_protocol.specs.declared.copy.CachedCopy.{CachedCopy}
use Rattle.tl_protocol.specs.declared.copy.CachedCopy.TheVariants.{Absent, Readable, Writable}
use Rattle.tl_protocol.specs.declared.event.Access.{Access}
use Rattle.tl_protocol.specs.declared.event.Event.TheVariants.{Store}
use Rattle.tl_copies.specs.Copies.{Tables, held_at, is_cell, SameSize}
use Rattle.tl_bank_spec.specs.Calls.{store_cases}
use Rattle.tl_bank_spec.specs.Refusal.{first_of}
use Rattle.tl_bank_spec.specs.View.{View, client_at}
use Rattle.tl_bank_spec.specs.Clock.{clock_of, latest}
use Rattle.tl_bank_laws.specs.Entry.{entry_with}
use Rattle.tl_bank_laws.specs.Layers.{Layers}
use Rattle.tl_bank_laws.specs.Means.{Means}
use Rattle.tl_bank_laws.proofs.Allowed.{store-allowed}
use Rattle.tl_bank_laws.proofs.Entries.{put-is}
use Rattle.tl_bank_laws.proofs.Keep.{means-step}
use Rattle.tl_bank_laws.proofs.Loads.{later-is}

-- a copy that may be written is above None
tip-some : (copy : CachedCopy) → perm_of copy ≡ Tip → perm_of copy ≢ p_None
tip-some Absent h = cc
tip-some (Readable bytes) h = cc
tip-some (Writable bytes dirty) h = λ e. cc

-- what a store shows of the bank before it
pub record Writes (v : View) (c address : ℕ) (bytes : List ℕ) (clock block : ℕ) (copy : CachedCopy) (wait : Awaited) (stamp : ℕ) : Type 0 where
  pub allowed : first_of (store_cases v c address (length bytes) clock) ≡ None
  pub copy_is :
      copy ≡ stored_in (address % v.geometry.block_bytes) bytes (client_at v c (address / v.geometry.block_bytes)).held
  pub block_is : block ≡ address / v.geometry.block_bytes
  pub wait_is : wait ≡ (client_at v c block).wait
  pub stamp_is : stamp ≡ latest v clock + 1

-- the bank is kept once the store is in the log, its copy in the client's table, and its stamp is the clock
pub store-keeps : (v : View) (h : Layers) (c address : ℕ) (bytes : List ℕ) (clock block : ℕ) (copy : CachedCopy) (wait : Awaited)
    (stamp index room : ℕ) (tables : Tables)
    → Means v h → Writes v c address bytes clock block copy wait stamp → SameSize h.copies tables
    → ((x y : ℕ) → held_at tables x y
    ≡ (if is_cell c block x y then entry_with copy wait else held_at h.copies x y))
    → Means (record v {
      log = v.log ++ Store (record { client = c; address = address; bytes = bytes; stamp = stamp; index = index }) ∷ [];
      room = room;
    }) (record h { copies = tables; clock = stamp })
store-keeps v h c address bytes clock block copy wait stamp index room tables m writes same after =
    let own : ℕ = address / v.geometry.block_bytes in
    let at : ℕ = address % v.geometry.block_bytes in
    let access : Access = record { client = c; address = address; bytes = bytes; stamp = stamp; index = index } in
    let k : Client = client_at v c own in
    let ok = store-allowed v c address (length bytes) clock writes.allowed in
    means-step v h (record h { copies = tables; clock = stamp }) (Store access) c (stored k at bytes) room m
    (record {
      may = (ok.0.block, (ok.0.client, ((ok.0.some, ok.0.few, ok.0.fits), ok.1)));
      first = tt;
      leaves = refl;
      leaves_registers = tt;
      here = ok.0.here;
      later = later-is (clock_of v.log) clock stamp writes.stamp_is;
      client = λ x. refl;
      recorded = refl;
    })
    (record {
      lanes = λ x l. refl;
      copies =
          put-is h.copies tables c own copy (stored_in at bytes k.held) wait k.wait writes.copy_is
          (writes.wait_is ∙ ap (λ b. (client_at v c b).wait) writes.block_is)
          (subst (λ b. (x y : ℕ) → held_at tables x y ≡ (if is_cell c b x y then entry_with copy wait else held_at h.copies x y))
          writes.block_is after);
      links_size = record { bank = refl; clients = refl };
      copies_size = same;
      home = refl;
      limit = refl;
      clock = refl;
    })
