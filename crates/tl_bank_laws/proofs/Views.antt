-- What the views of a bank show of its clients' copies, and what every run keeps of it.
use Rattle.std.proofs.Common.{◌≡◌, ◌≢◌, ℕ, ◌/◌, ◌%◌, ◌<◌, ◌≤◌, ◌==◌, ◌||◌, not, Bool, true, false, List, [], ◌∷◌, ◌++◌, length, Some, None, if◌then◌else◌, refl, sym, ◌∙◌, ap, arith, eq-eqb, eqb-true, div-add-mod', mod-lt}
use Rattle.std.specs.Prelude.{◌↔◌, IfSome, IsSome, slice_get, slice_index}
use Rattle.std.proofs.lemmas.Bool.Decides.{nat_tests}
use Rattle.std.proofs.lemmas.Option.{slice_get-get_or, same_Some}
use Rattle.std.proofs.lemmas.Bool.{or_parts, or_from}
use Rattle.tl_types.specs.Permission.{rank}
use Rattle.tl_types.specs.declared.permission.Perm.TheVariants.{None as p_None, Tip}
use Rattle.tl_map.specs.Places.{bank_of, block_of_address}
use Rattle.tl_protocol.specs.Coherent.{last, AreLast}
use Rattle.tl_protocol.specs.Copy.{perm_of, bytes_of}
use Rattle.tl_protocol.specs.declared.copy.CachedCopy.{CachedCopy}
use Rattle.tl_protocol.specs.declared.copy.CachedCopy.TheVariants.{Absent, Readable, Writable}
use Rattle.tl_protocol.specs.declared.home.Outward.{Outward}
use Rattle.tl_protocol.specs.declared.home.Outward.TheVariants.{Quiet, Get, Data, Put, PutAck}
use Rattle.tl_protocol.specs.declared.event.Access.{Access}
use Rattle.tl_protocol.specs.declared.event.Event.TheVariants.{Load}
use Rattle.tl_protocol.proofs.Coherent.{every_run_keeps_copies, every_run_reads_last}
use Rattle.tl_bank_home.specs.Homes.{recorded_in, outward_in}
use Rattle.tl_bank_spec.specs.Cases.{no_client, no_block, elsewhere}
use Rattle.tl_bank_spec.specs.View.{View, shape_of, end_at, client_at, perm_at}
use Rattle.tl_bank_spec.specs.Own.{IsOwn}
use Rattle.tl_bank_spec.specs.Views.{not_own, no_part, byte_at, peeked, MayRead, MayWrite, passing, outward_at}
use Rattle.tl_bank_laws.specs.Layers.{Layers}
use Rattle.tl_bank_laws.specs.Means.{Means}
use Rattle.tl_bank_laws.proofs.Allowed.{client-is, block-is, here-is}
use Rattle.tl_bank_laws.proofs.Loads.{Reads, load-keeps}

-- ## What the bank has

-- the block is of this bank
pub own-is : (v : View) (b : ℕ) → not_own v b ≡ false → IsOwn v.geometry v.number b
own-is v b h = let both = or_parts (no_block v b) (elsewhere v b) h in (block-is v b both.0, here-is v b both.1)

-- a block that is there, of the bank with this number, is not found to be missing or another's
own-by : (g n : ℕ) (t : Bool) → t ≡ true → g ≡ n → (not t || not (g == n)) ≡ false
own-by g n true h e = ap not (eq-eqb g n e)
own-by g n false h e = cc

-- so a block of this bank is not found to be missing or another's
pub own-not : (v : View) (b : ℕ) → IsOwn v.geometry v.number b → not_own v b ≡ false
own-not v b own = let l = own.0 in own-by (bank_of v.geometry b) v.number _ (grind (arith, nat_tests)) own.1

-- and the client is there
pub part-is : (v : View) (c b : ℕ) → no_part v c b ≡ false → (c < v.geometry.clients) × IsOwn v.geometry v.number b
part-is v c b h = let both = or_parts (no_client v c) (not_own v b) h in (client-is v c both.0, own-is v b both.1)

-- nor is such a block together with a client that is there
pub part-not : (v : View) (c b : ℕ) → c < v.geometry.clients → IsOwn v.geometry v.number b → no_part v c b ≡ false
part-not v c b lt own = or_from (no_client v c) (not_own v b) (grind (arith, nat_tests)) (own-not v b own)

-- ## The directory

-- what home records of a client, of a block of the bank, is what the log leaves
pub recorded-is : (v : View) (h : Layers) (c b : ℕ) → Means v h → IsOwn v.geometry v.number b → recorded_in h.home c b ≡ (client_at v c b).recorded
recorded-is v h c b m own = (m.home b own).recorded c

-- a copy is at most what is recorded
pub recorded-covers : (v : View) (h : Layers) (c b : ℕ) → Means v h → rank (perm_at v c b) ≤ rank (client_at v c b).recorded
recorded-covers v h c b m = (every_run_keeps_copies (shape_of v.geometry) v.image v.log m.lawful.run b).recorded c

-- ## What passes

-- what passes is shown, where anything does
passing-is : (x : Outward) → x ≢ Quiet → passing x ≡ Some x
passing-is Quiet some = absurd (some refl)
passing-is Get some = refl
passing-is (Data bytes) some = refl
passing-is (Put bytes) some = refl
passing-is PutAck some = refl

-- what home has of a block of this bank is shown, where anything passes
pub outward-is : (v : View) (h : Layers) (b : ℕ) (x : Outward) → Means v h → not_own v b ≡ false → outward_in h.home b ≡ x
    → x ≢ Quiet → Some x ≡ outward_at v b
outward-is v h b x m own is some =
    let there : x ≡ (end_at v b).outward = sym is ∙ (m.home b (own-is v b own)).outward in
    rw own (sym (passing-is x some) ∙ ap passing there)

-- ## A byte of a copy

-- a copy that may be read has a whole block of bytes, and the one at i is x
abbrev pub HasByte : CachedCopy → ℕ → ℕ → ℕ → Type 0
HasByte copy size i x = perm_of copy ≢ p_None → (length (bytes_of copy) ≡ size) × (slice_index (bytes_of copy) i ≡ x)

-- the byte at an address of a copy that may be read is the one last stored there
pub byte-last : (v : View) (h : Layers) (c address : ℕ) → Means v h
    → HasByte (client_at v c (address / v.geometry.block_bytes)).held v.geometry.block_bytes (address % v.geometry.block_bytes)
    (last v.image v.log address)
byte-last v h c address m some =
    let size : ℕ = v.geometry.block_bytes in
    let block : ℕ = address / size in
    let least = m.geometry.block_bytes.least in
    let newest = (every_run_reads_last (shape_of v.geometry) v.image v.log m.lawful.run).0 block in
    let below : address % size < size = mod-lt address (let wide : 0 < size = omega arith in wide) in (
      newest.sized c some,
      newest.newest c some (address % size) (rw (newest.sized c some) below)
          ∙ ap (λ a. last v.image v.log a) (div-add-mod' address size),
    )

-- the byte at a place inside a whole block is found there
byte-is : (bytes : List ℕ) (size i x : ℕ) → i < size → (length bytes ≡ size) × (slice_index bytes i ≡ x) → slice_get bytes i ≡ Some x
byte-is bytes size i x lt both = slice_get-get_or bytes i 0 (rw both.0 lt) ∙ ap Some both.1

-- what is shown of a copy, where it is shown, is that byte
shown-byte : (t : Bool) (copy : CachedCopy) (size i x : ℕ) → i < size → HasByte copy size i x
    → IfSome (if t then None else slice_get (bytes_of copy) i) (λ byte. byte ≡ x)
shown-byte true copy size i x lt has = tt
shown-byte false Absent size i x lt has = tt
shown-byte false (Readable bytes) size i x lt has =
    rw (byte-is bytes size i x lt (has (λ e. cc))) refl
shown-byte false (Writable bytes dirty) size i x lt has =
    rw (byte-is bytes size i x lt (has (λ e. cc))) refl

-- the byte that is shown of a copy is the one last stored at its address
pub peeks-last : (v : View) (h : Layers) (c address : ℕ) → Means v h
    → IfSome (peeked v c address) (λ byte. byte ≡ last v.image v.log address)
peeks-last v h c address m =
    let size : ℕ = v.geometry.block_bytes in
    let least = m.geometry.block_bytes.least in
    shown-byte (no_part v c (address / size)) (client_at v c (address / size)).held size (address % size) (last v.image v.log address)
    (mod-lt address (let wide : 0 < size = omega arith in wide)) (byte-last v h c address m)

-- the byte of a copy is shown of what the bank has
pub peeked-is : (v : View) (c address : ℕ) → no_part v c (block_of_address v.geometry address) ≡ false
    → peeked v c address ≡ byte_at v c address
peeked-is v c address part = rw part refl

-- it is shown where the copy may be read
shown-where : (t : Bool) (copy : CachedCopy) (size i x : ℕ) → i < size → HasByte copy size i x
    → IsSome (if t then None else slice_get (bytes_of copy) i) ↔ ((t ≡ false) × (perm_of copy ≢ p_None))
shown-where true copy size i x lt has = ((λ h. cc), (λ h. let no = h.0 in cc))
shown-where false Absent size i x lt has = ((λ h. cc), (λ h. absurd (h.1 refl)))
shown-where false (Readable bytes) size i x lt has =
    ((λ h. (refl, λ e. cc)), (λ h. rw (byte-is bytes size i x lt (has (λ e. cc))) refl))
shown-where false (Writable bytes dirty) size i x lt has =
    ((λ h. (refl, λ e. cc)), (λ h. rw (byte-is bytes size i x lt (has (λ e. cc))) refl))

-- and it is shown just where a client of the bank has a copy that may be read
pub peeks-where : (v : View) (h : Layers) (c address : ℕ) → Means v h → IsSome (peeked v c address) ↔ MayRead v c address
peeks-where v h c address m =
    let size : ℕ = v.geometry.block_bytes in
    let block : ℕ = address / size in
    let least = m.geometry.block_bytes.least in
    let both = shown-where (no_part v c block) (client_at v c block).held size (address % size) (last v.image v.log address)
    (mod-lt address (let wide : 0 < size = omega arith in wide)) (byte-last v h c address m) in (
      (λ some. let shown = both.0 some in let part = part-is v c block shown.0 in (part.0, part.1, shown.1)),
      (λ may. both.1 (part-not v c block may.0 may.1, may.2)),
    )

-- ## The writer

-- beside a client that may write no other may read
pub writer-alone : (v : View) (h : Layers) (c b : ℕ) → Means v h → perm_at v c b ≡ Tip
    → (other : ℕ) → other ≢ c → perm_at v other b ≡ p_None
writer-alone v h c b m tip other apart =
    (every_run_keeps_copies (shape_of v.geometry) v.image v.log m.lawful.run b).alone c other (λ e. apart (sym e)) tip

-- so one may write at most
only-writer : (v : View) (h : Layers) (c d b : ℕ) → Means v h → perm_at v c b ≡ Tip → perm_at v d b ≡ Tip → c ≡ d
only-writer v h c d b m tip too =
    let split : (t : Bool) → (d == c) ≡ t → c ≡ d =
    λ t. elim t as (λ t. (d == c) ≡ t → c ≡ d) [
      | true ↦ λ e. sym (eqb-true d c e)
      | false ↦ λ e. let none = writer-alone v h c b m tip d (grind (arith, nat_tests)) in
          let both : Tip ≡ p_None = sym too ∙ none in cc
    ] in
    split (d == c) refl

-- the client that may write, where there is one
pub writer-is : (v : View) (h : Layers) (c b : ℕ) → Means v h → c < v.geometry.clients → IsOwn v.geometry v.number b
    → perm_at v c b ≡ Tip → (d : ℕ) → (Some c ≡ Some d) ↔ MayWrite v d b
writer-is v h c b m lt own tip d = (
  (λ e. let same : c ≡ d = same_Some c d e in rw (← same) (lt, own, tip)),
  (λ may. ap Some (only-writer v h c d b m tip may.2)),
)

-- ## A load

-- the bytes of a load are those last stored before it
pub load-last : (v : View) (h : Layers) (c address len clock : ℕ) (bytes : List ℕ) (stamp index room : ℕ)
    → Means v h → Reads v c address len clock bytes stamp → AreLast v.image v.log address bytes
load-last v h c address len clock bytes stamp index room m reads =
    let access : Access = record { client = c; address = address; bytes = bytes; stamp = stamp; index = index } in
    let next = load-keeps v h c address len clock bytes stamp index room m reads in
    (every_run_reads_last (shape_of v.geometry) v.image (v.log ++ Load access ∷ []) next.lawful.run).1 v.log access [] refl
