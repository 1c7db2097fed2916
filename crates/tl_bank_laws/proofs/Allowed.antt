-- What a call may rely on where no refusal's case holds.
use Rattle.std.proofs.Common.{◌≡◌, ◌≢◌, ℕ, ◌+◌, ◌/◌, ◌%◌, ◌<◌, ◌≤◌, ◌==◌, ◌&&◌, ◌||◌, not, Bool, true, false, List, [], ◌∷◌, Some, None, if◌then◌else◌, refl, arith, eqb-true, nat_lt, nat_le}
use Rattle.std.proofs.lemmas.Bool.Decides.{nat_tests}
use Rattle.std.proofs.lemmas.Bool.{or_parts, not-false}
use Rattle.tl_types.specs.Permission.{rank, grow_from, prune_from}
use Rattle.tl_types.specs.declared.permission.Perm.{Perm}
use Rattle.tl_types.specs.declared.permission.Perm.TheVariants.{None as p_None, Branch, Tip}
use Rattle.tl_types.specs.declared.permission.Grow.{Grow}
use Rattle.tl_types.specs.declared.permission.Prune.{Prune}
use Rattle.tl_types.specs.declared.wait.Awaited.{Awaited}
use Rattle.tl_types.specs.declared.wait.Awaited.TheVariants.{Nothing, ForGrant, ForReleaseAck}
use Rattle.tl_bank_spec.specs.Share.{ShareView}
use Rattle.tl_map.specs.Places.{bank_of}
use Rattle.tl_bank_spec.specs.Calls.{block_named_by, load_cases, store_cases, acquire_cases, release_cases}
use Rattle.tl_bank_spec.specs.Cases.{no_client, no_block, bad_access, bad_share, other_share, copies_full, elsewhere}
use Rattle.tl_bank_spec.specs.Refusal.{first_of}
use Rattle.tl_bank_spec.specs.View.{View, client_at, perm_at}
use Rattle.tl_bank_spec.specs.Tables.{copies_at, is_waiting}
use Rattle.tl_bank_spec.specs.declared.refusal.Refusal.{Refusal}

-- ## No case holds

-- none of these cases holds
abbrev pub AllFalse : List (Bool × Refusal) → Type 0
AllFalse [] = Unit {0}
AllFalse (x ∷ rest) = (x.0 ≡ false) × AllFalse rest

-- where there is no first refusal, the first case does not hold, and there is none among the rest
first-false : (x : Bool × Refusal) (t : Bool) (rest : List (Bool × Refusal)) → (if t then Some x.1 else first_of rest) ≡ None
    → (t ≡ false) × (first_of rest ≡ None)
first-false x true rest h = cc
first-false x false rest h = (refl, h)

-- where there is no first refusal, no case holds
pub all-false : (xs : List (Bool × Refusal)) → first_of xs ≡ None → AllFalse xs
all-false [] h = tt
all-false (x ∷ rest) h =
    let both : (x.0 ≡ false) × (first_of rest ≡ None) = first-false x x.0 rest h in
    (both.0, all-false rest both.1)

-- the block is of this bank
pub here-is : (v : View) (block : ℕ) → elsewhere v block ≡ false → bank_of v.geometry block ≡ v.number
here-is v block h = eqb-true (bank_of v.geometry block) v.number (not-false (bank_of v.geometry block == v.number) h)

-- the client is one of the geometry's
pub client-is : (v : View) (client : ℕ) → no_client v client ≡ false → client < v.geometry.clients
client-is v client h = grind (arith, nat_tests)

-- the block is of the memory
pub block-is : (v : View) (block : ℕ) → no_block v block ≡ false → block < v.geometry.memory_blocks
block-is v block h = grind (arith, nat_tests)

-- ## Accesses

-- an access of one to eight bytes of a block of the memory and of this bank
pub record AccessAllowed (v : View) (c address len : ℕ) : Type 0 where
  pub client : c < v.geometry.clients
  pub some : 0 < len
  pub few : len ≤ 8
  pub fits : address % v.geometry.block_bytes + len ≤ v.geometry.block_bytes
  pub block : address / v.geometry.block_bytes < v.geometry.memory_blocks
  pub here : bank_of v.geometry (address / v.geometry.block_bytes) ≡ v.number

-- an access that is not bad has one to eight bytes, and passes both tests of where they lie
bytes-are : (n len : ℕ) (a b : Bool) → ((len == 0) || nat_lt 8 len || not (a && b)) ≡ false → (0 < len) × (len ≤ 8) × (a ≡ true) × (b ≡ true)
bytes-are n len true true h = (grind (arith, nat_tests), grind (arith, nat_tests), refl, refl)
bytes-are n len true false h = absurd (grind (arith, nat_tests))
bytes-are n len false b h = absurd (grind (arith, nat_tests))

-- a client's access that is neither out of range nor of another bank is of one to eight bytes of a block of this bank
access-allowed : (v : View) (client address len : ℕ) → (no_client v client || bad_access v address len) ≡ false
    → elsewhere v (block_named_by v address) ≡ false → AccessAllowed v client address len
access-allowed v client address len range here =
    let both = or_parts (no_client v client) (bad_access v address len) range in
    let block : ℕ = address / v.geometry.block_bytes in
    let bytes = bytes-are 0 len (nat_lt block v.geometry.memory_blocks)
    (nat_le (address % v.geometry.block_bytes + len) v.geometry.block_bytes) both.1 in
    record {
      client = client-is v client both.0;
      some = bytes.0;
      few = bytes.1;
      fits = let h = bytes.3 in grind (arith, nat_tests);
      block = let h = bytes.2 in grind (arith, nat_tests);
      here = here-is v block here;
    }

-- a permission that is not too low for a load is not None
readable : (p : Perm) → nat_lt (rank p) 1 ≡ false → p ≢ p_None
readable p_None h = cc
readable Branch h = λ e. cc
readable Tip h = λ e. cc

-- one that is not too low for a store is Tip
writable : (p : Perm) → nat_lt (rank p) 2 ≡ false → p ≡ Tip
writable p_None h = cc
writable Branch h = cc
writable Tip h = refl

-- a load that no case refuses is such an access, of a block in which its client has more than None
pub load-allowed : (v : View) (client address len clock : ℕ) → first_of (load_cases v client address len clock) ≡ None
    → AccessAllowed v client address len × (perm_at v client (address / v.geometry.block_bytes) ≢ p_None)
load-allowed v client address len clock none =
    let f : AllFalse (load_cases v client address len clock) = all-false (load_cases v client address len clock) none in
    (access-allowed v client address len f.0 f.1.0, readable (perm_at v client (address / v.geometry.block_bytes)) f.1.1.0)

-- a store that no case refuses is such an access, of a block in which its client has Tip
pub store-allowed : (v : View) (client address len clock : ℕ) → first_of (store_cases v client address len clock) ≡ None
    → AccessAllowed v client address len × (perm_at v client (address / v.geometry.block_bytes) ≡ Tip)
store-allowed v client address len clock none =
    let f : AllFalse (store_cases v client address len clock) = all-false (store_cases v client address len clock) none in
    (access-allowed v client address len f.0 f.1.0, writable (perm_at v client (address / v.geometry.block_bytes)) f.1.1.0)

-- ## Acquires and Releases

-- permissions of one rank are one permission
pub same-perm : (p q : Perm) → not (rank p == rank q) ≡ false → p ≡ q
same-perm p_None p_None h = refl
same-perm p_None Branch h = cc
same-perm p_None Tip h = cc
same-perm Branch p_None h = cc
same-perm Branch Branch h = refl
same-perm Branch Tip h = cc
same-perm Tip p_None h = cc
same-perm Tip Branch h = cc
same-perm Tip Tip h = refl

-- a client that waits for neither a Grant nor a ReleaseAck waits for nothing
pub not-waiting : (wait : Awaited) → is_waiting wait ≡ false → wait ≡ Nothing
not-waiting Nothing h = refl
not-waiting ForGrant h = cc
not-waiting ForReleaseAck h = cc

-- an Acquire of a block of this bank, by a client that waits for nothing, has what it grows from, and has a place for the block
pub record AcquireAllowed (v : View) (c b : ℕ) (grow : Grow) : Type 0 where
  pub client : c < v.geometry.clients
  pub block : b < v.geometry.memory_blocks
  pub here : bank_of v.geometry b ≡ v.number
  pub wait : (client_at v c b).wait ≡ Nothing
  pub from : perm_at v c b ≡ grow_from grow
  pub place : copies_full v c b ≡ false

-- an Acquire that no case refuses is such an Acquire
pub acquire-allowed : (v : View) (c b : ℕ) (grow : Grow) → first_of (acquire_cases v c b grow) ≡ None → AcquireAllowed v c b grow
acquire-allowed v c b grow none =
    let f : AllFalse (acquire_cases v c b grow) = all-false (acquire_cases v c b grow) none in
    let range = or_parts (no_client v c) (no_block v b) f.0 in
    record {
      client = client-is v c range.0;
      block = block-is v b range.1;
      here = here-is v b f.1.0;
      wait = not-waiting (client_at v c b).wait f.1.1.0;
      from = same-perm (perm_at v c b) (grow_from grow) f.1.1.1.0;
      place = f.1.1.1.1.0;
    }

-- a share of this client and this bank, with the number of its copies
pub share-is : (v : View) (c : ℕ) (share : ShareView) → bad_share v c share ≡ false → other_share v share ≡ false → share.count ≡ copies_at v c
share-is v c share bad other =
    let both = or_parts (not (share.client == c)) ((share.bank == v.number) && not (share.count == copies_at v c)) bad in
    let at : (share.bank == v.number) ≡ true = not-false (share.bank == v.number) other in
    let count : not (share.count == copies_at v c) ≡ false = rw at at both.1 in
    eqb-true share.count (copies_at v c) (not-false (share.count == copies_at v c) count)

-- a Release of a block of this bank, by a client that waits for nothing and has what it prunes from, and whose share counts its copies
pub record ReleaseAllowed (v : View) (c b : ℕ) (prune : Prune) (share : ShareView) : Type 0 where
  pub client : c < v.geometry.clients
  pub block : b < v.geometry.memory_blocks
  pub here : bank_of v.geometry b ≡ v.number
  pub count : share.count ≡ copies_at v c
  pub wait : (client_at v c b).wait ≡ Nothing
  pub from : perm_at v c b ≡ prune_from prune

-- where a test of three cases fails, each of the three fails
or-three : (a b c : Bool) → (a || b || c) ≡ false → (a ≡ false) × (b ≡ false) × (c ≡ false)
or-three false false false h = (refl, refl, refl)
or-three true b c h = absurd (grind (arith, nat_tests))
or-three false true c h = absurd (grind (arith, nat_tests))
or-three false false true h = absurd (grind (arith, nat_tests))

-- a Release that no case refuses is such a Release
pub release-allowed : (v : View) (c b : ℕ) (prune : Prune) (share : ShareView) → first_of (release_cases v c b prune share) ≡ None
    → ReleaseAllowed v c b prune share
release-allowed v c b prune share none =
    let f : AllFalse (release_cases v c b prune share) = all-false (release_cases v c b prune share) none in
    let range = or-three (no_client v c) (no_block v b) (bad_share v c share) f.0 in
    let place = or_parts (elsewhere v b) (other_share v share) f.1.0 in
    record {
      client = client-is v c range.0;
      block = block-is v b range.1;
      here = here-is v b place.0;
      count = share-is v c share range.2 place.1;
      wait = not-waiting (client_at v c b).wait f.1.1.0;
      from = same-perm (perm_at v c b) (prune_from prune) f.1.1.1.0;
    }
