-- A load: the bytes that it reads, and what it leaves.
use Rattle.std.proofs.Common.{◌≡◌, ◌≢◌, ℕ, ◌+◌, ◌/◌, ◌%◌, ◌<◌, ◌≤◌, ◌==◌, ◌&&◌, max, Bool, true, false, cond, List, [], ◌∷◌, ◌++◌, length, Option, None, refl, sym, ◌∙◌, ap, arith, eqb-true}
use Rattle.std.specs.Prelude.{slice_range}
use Rattle.std.proofs.lemmas.Grind.{common_steps}
use Rattle.tl_types.specs.declared.permission.Perm.TheVariants.{None as p_None}
use Rattle.tl_protocol.specs.Access.{FitsBlock, ReadsAs}
use Rattle.tl_protocol.specs.Copy.{perm_of, bytes_of}
use Rattle.tl_protocol.specs.Protocol.{Block}
use Rattle.tl_protocol.specs.Sizes.{IsWhole, copy_bytes}
use Rattle.tl_protocol.specs.declared.client.Client.{Client}
use Rattle.tl_protocol.specs.declared.copy.CachedCopy.{CachedCopy}
use Rattle.tl_protocol.specs.declared.copy.CachedCopy.TheVariants.{Absent, Readable, Writable}
use Rattle.tl_protocol.specs.declared.event.Access.{Access}
use Rattle.tl_protocol.specs.declared.event.Event.TheVariants.{Load}
use Rattle.tl_protocol.proofs.Coherent.{every_run_keeps_sizes}
use Rattle.tl_copies.specs.Copies.{Tables, held_at, is_cell}
use Rattle.tl_copies.specs.declared.held.Held.{Held}
use Rattle.tl_bank_spec.specs.Calls.{load_cases}
use Rattle.tl_bank_spec.specs.Refusal.{first_of}
use Rattle.tl_bank_spec.specs.View.{View, shape_of, end_at, client_at}
use Rattle.tl_bank_spec.specs.Clock.{clock_of, latest}
use Rattle.tl_bank_laws.specs.Entry.{entry_of}
use Rattle.tl_bank_laws.specs.Layers.{Layers}
use Rattle.tl_bank_laws.specs.Means.{Means}
use Rattle.tl_bank_laws.proofs.Allowed.{load-allowed}
use Rattle.tl_bank_laws.proofs.Keep.{means-step}

-- a readable copy has a whole block
whole-readable : (size : ℕ) (copy : CachedCopy) → perm_of copy ≢ p_None → IsWhole size (copy_bytes copy) → length (bytes_of copy) ≡ size
whole-readable size Absent some whole = absurd (some refl)
whole-readable size (Readable bytes) some whole = whole
whole-readable size (Writable bytes dirty) some whole = whole

-- so a client that may read a block has all its bytes
pub copy-whole : (v : View) (h : Layers) (c b : ℕ) → Means v h → perm_of (client_at v c b).held ≢ p_None
    → length (bytes_of (client_at v c b).held) ≡ v.geometry.block_bytes
copy-whole v h c b m some =
    whole-readable v.geometry.block_bytes (client_at v c b).held some
    ((every_run_keeps_sizes (shape_of v.geometry) v.image v.log m.lawful.run b).held c)

-- the bytes are there that a load reads which may take place
pub load-fits : (v : View) (h : Layers) (c address len clock : ℕ) → Means v h → first_of (load_cases v c address len clock) ≡ None
    → (address % v.geometry.block_bytes + len ≤ length (bytes_of (client_at v c (address / v.geometry.block_bytes)).held)) × (len ≤ 8)
load-fits v h c address len clock m none =
    let ok = load-allowed v c address len clock none in
    (rw (copy-whole v h c (address / v.geometry.block_bytes) m ok.1) ok.0.fits, ok.0.few)

-- a range that lies inside a list has as many bytes as it asks for
range-length : (xs : List ℕ) (at n : ℕ) → at + n ≤ length xs → length (slice_range xs at (at + n)) ≡ n
range-length xs at n h = grind (arith, common_steps)

-- a client that is as it was
pub client-same : (s : Block) (c x : ℕ) → s.client x ≡ cond (x == c) (s.client c) (s.client x)
client-same s c x =
    let split : (t : Bool) → (x == c) ≡ t → s.client x ≡ cond t (s.client c) (s.client x) =
    λ t. elim t as (λ t. (x == c) ≡ t → s.client x ≡ cond t (s.client c) (s.client x)) [
      | true ↦ λ h. ap (λ y. s.client y) (eqb-true x c h)
      | false ↦ λ h. refl
    ] in
    split (x == c) refl

-- an entry that is as it was
pub entry-same : (tables : Tables) (c b : ℕ) (o : Option Held) → held_at tables c b ≡ o
    → (x y : ℕ) → held_at tables x y ≡ cond (is_cell c b x y) o (held_at tables x y)
entry-same tables c b o e x y =
    let split : (t u : Bool) → (x == c) ≡ t → (y == b) ≡ u → held_at tables x y ≡ cond (t && u) o (held_at tables x y) =
    λ t u. elim t as (λ t. (x == c) ≡ t → (y == b) ≡ u → held_at tables x y ≡ cond (t && u) o (held_at tables x y)) [
      | true ↦ elim u as (λ u. (x == c) ≡ true → (y == b) ≡ u → held_at tables x y ≡ cond u o (held_at tables x y)) [
        | true ↦ λ h l. rw (eqb-true x c h, eqb-true y b l) e
        | false ↦ λ h l. refl
      ]
      | false ↦ λ h l. refl
    ] in
    split (x == c) (y == b) refl refl

-- a stamp one past the later of two clocks is past the first
pub later-is : (clock other stamp : ℕ) → stamp ≡ max clock other + 1 → clock < stamp
later-is clock other stamp is = omega arith

-- what a load shows of the bank before it
pub record Reads (v : View) (c address len clock : ℕ) (bytes : List ℕ) (stamp : ℕ) : Type 0 where
  pub allowed : first_of (load_cases v c address len clock) ≡ None
  pub bytes_are :
      bytes ≡ slice_range (bytes_of (client_at v c (address / v.geometry.block_bytes)).held)
      (address % v.geometry.block_bytes) (address % v.geometry.block_bytes + len)
  pub stamp_is : stamp ≡ latest v clock + 1

-- the bank is kept once the load is in the log, and its stamp is the clock
pub load-keeps : (v : View) (h : Layers) (c address len clock : ℕ) (bytes : List ℕ) (stamp index room : ℕ)
    → Means v h → Reads v c address len clock bytes stamp
    → Means (record v {
      log = v.log ++ Load (record { client = c; address = address; bytes = bytes; stamp = stamp; index = index }) ∷ [];
      room = room;
    }) (record h { clock = stamp })
load-keeps v h c address len clock bytes stamp index room m reads =
    let block : ℕ = address / v.geometry.block_bytes in
    let at : ℕ = address % v.geometry.block_bytes in
    let access : Access = record { client = c; address = address; bytes = bytes; stamp = stamp; index = index } in
    let s : Block = end_at v block in
    let k : Client = s.client c in
    let ok = load-allowed v c address len clock reads.allowed in
    let fits = load-fits v h c address len clock m reads.allowed in
    let long : length bytes ≡ len = ap length reads.bytes_are ∙ range-length (bytes_of k.held) at len fits.0 in
    let same : ReadsAs (bytes_of k.held) at bytes = rw long (sym reads.bytes_are) in
    let inside : FitsBlock (shape_of v.geometry) address bytes = rw long (ok.0.some, ok.0.few, ok.0.fits) in
    means-step v h (record h { clock = stamp }) (Load access) c k room m
    (record {
      may = (ok.0.block, (ok.0.client, (inside, ok.1, same)));
      first = tt;
      leaves = refl;
      leaves_registers = tt;
      here = ok.0.here;
      later = later-is (clock_of v.log) clock stamp reads.stamp_is;
      client = λ x. client-same s c x;
      recorded = refl;
    })
    (record {
      lanes = λ x l. refl;
      copies = entry-same h.copies c block (entry_of k) (m.copies c block ok.0.client ok.0.block);
      links_size = record { bank = refl; clients = refl };
      copies_size = record { bank = refl; limit = refl; blocks = refl; clients = refl };
      home = refl;
      limit = refl;
      clock = refl;
    })
