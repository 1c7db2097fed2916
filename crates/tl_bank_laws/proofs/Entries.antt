-- What an entry says is what it was made of.
use Rattle.std.proofs.Common.{◌≡◌, ℕ, ◌<◌, cond, true, Option, Some, is_some, refl, ap, ◌∙◌}
use Rattle.tl_types.specs.Count.{count_below}
use Rattle.tl_types.proofs.Counts.{count_below-same}
use Rattle.tl_types.specs.declared.wait.Awaited.{Awaited}
use Rattle.tl_types.specs.declared.wait.Awaited.TheVariants.{Nothing, ForGrant, ForReleaseAck}
use Rattle.tl_protocol.specs.Copy.{perm_of, bytes_of}
use Rattle.tl_protocol.specs.Ledger.{has_copy}
use Rattle.tl_protocol.specs.declared.client.Client.{Client}
use Rattle.tl_protocol.specs.declared.copy.CachedCopy.{CachedCopy}
use Rattle.tl_protocol.specs.declared.copy.CachedCopy.TheVariants.{Absent, Readable, Writable}
use Rattle.tl_copies.specs.Copies.{Tables, held_at, is_cell, entries, copies}
use Rattle.tl_copies.specs.Held.{has_copy as table_has_copy, waiting}
use Rattle.tl_copies.specs.declared.held.Held.{Held}
use Rattle.tl_bank_spec.specs.View.{View, client_at, perm_at}
use Rattle.tl_bank_spec.specs.Tables.{has_entry_for, entries_at, copies_at, has_entry}
use Rattle.tl_bank_laws.specs.Entry.{ended, entry_with, copy_in, wait_in, perm_in, bytes_in}
use Rattle.tl_bank_laws.specs.Layers.{Layers}
use Rattle.tl_bank_laws.specs.Means.{Means}

-- the copy that an entry says is the one that it was made of
pub copy_in-entry : (copy : CachedCopy) (wait : Awaited) → copy_in (entry_with copy wait) ≡ copy
copy_in-entry Absent Nothing = refl
copy_in-entry Absent ForGrant = refl
copy_in-entry Absent ForReleaseAck = refl
copy_in-entry (Readable bytes) wait = refl
copy_in-entry (Writable bytes dirty) wait = refl

-- so is the answer that it says its client waits for
pub wait_in-entry : (copy : CachedCopy) (wait : Awaited) → wait_in (entry_with copy wait) ≡ wait
wait_in-entry Absent Nothing = refl
wait_in-entry Absent ForGrant = refl
wait_in-entry Absent ForReleaseAck = refl
wait_in-entry (Readable bytes) wait = refl
wait_in-entry (Writable bytes dirty) wait = refl

-- its permission is the copy's
pub perm_in-entry : (copy : CachedCopy) (wait : Awaited) → perm_in (entry_with copy wait) ≡ perm_of copy
perm_in-entry Absent Nothing = refl
perm_in-entry Absent ForGrant = refl
perm_in-entry Absent ForReleaseAck = refl
perm_in-entry (Readable bytes) wait = refl
perm_in-entry (Writable bytes dirty) wait = refl

-- its bytes are the copy's
pub bytes_in-entry : (copy : CachedCopy) (wait : Awaited) → bytes_in (entry_with copy wait) ≡ bytes_of copy
bytes_in-entry Absent Nothing = refl
bytes_in-entry Absent ForGrant = refl
bytes_in-entry Absent ForReleaseAck = refl
bytes_in-entry (Readable bytes) wait = refl
bytes_in-entry (Writable bytes dirty) wait = refl

-- there is an entry just while there is a copy or the client waits
pub is_some-entry : (copy : CachedCopy) (wait : Awaited) → is_some (entry_with copy wait) ≡ has_entry_for copy wait
is_some-entry Absent Nothing = refl
is_some-entry Absent ForGrant = refl
is_some-entry Absent ForReleaseAck = refl
is_some-entry (Readable bytes) wait = refl
is_some-entry (Writable bytes dirty) wait = refl

-- an entry counts as a copy just where the client holds one
pub has_copy-entry : (k : Client) (copy : CachedCopy) (wait : Awaited) → table_has_copy (entry_with copy wait) ≡ has_copy (record k { held = copy })
has_copy-entry k Absent Nothing = refl
has_copy-entry k Absent ForGrant = refl
has_copy-entry k Absent ForReleaseAck = refl
has_copy-entry k (Readable bytes) wait = refl
has_copy-entry k (Writable bytes dirty) wait = refl

-- an entry that waits for an answer is made of the same copy
waiting-entry : (copy : CachedCopy) (before wait : Awaited) → has_entry_for copy wait ≡ true
    → Some (waiting wait (entry_with copy before)) ≡ entry_with copy wait
waiting-entry Absent before Nothing some = cc
waiting-entry Absent Nothing ForGrant some = refl
waiting-entry Absent ForGrant ForGrant some = refl
waiting-entry Absent ForReleaseAck ForGrant some = refl
waiting-entry Absent Nothing ForReleaseAck some = refl
waiting-entry Absent ForGrant ForReleaseAck some = refl
waiting-entry Absent ForReleaseAck ForReleaseAck some = refl
waiting-entry (Readable bytes) before wait some = refl
waiting-entry (Writable bytes dirty) before wait some = refl

-- so is one that waits for nothing any more
ended-entry : (copy : CachedCopy) (before : Awaited) → ended (entry_with copy before) ≡ entry_with copy Nothing
ended-entry Absent Nothing = refl
ended-entry Absent ForGrant = refl
ended-entry Absent ForReleaseAck = refl
ended-entry (Readable bytes) before = refl
ended-entry (Writable bytes dirty) before = refl

-- ## What the tables show of a client

-- a client's table has as many entries as the log leaves it
pub entries-is : (v : View) (h : Layers) (c : ℕ) → Means v h → c < v.geometry.clients → entries h.copies c ≡ entries_at v c
entries-is v h c m lt =
    ap (λ n. count_below (λ b. is_some (held_at h.copies c b)) n) m.copies_blocks
    ∙ count_below-same (λ b. is_some (held_at h.copies c b)) (λ b. has_entry (client_at v c b)) v.geometry.memory_blocks
    (λ b l. ap (λ (o : Option Held). is_some o) (m.copies c b lt l) ∙ is_some-entry (client_at v c b).held (client_at v c b).wait)

-- and as many copies
pub copies-is : (v : View) (h : Layers) (c : ℕ) → Means v h → c < v.geometry.clients → copies h.copies c ≡ copies_at v c
copies-is v h c m lt =
    ap (λ n. count_below (λ b. table_has_copy (held_at h.copies c b)) n) m.copies_blocks
    ∙ count_below-same (λ b. table_has_copy (held_at h.copies c b)) (λ b. has_copy (client_at v c b)) v.geometry.memory_blocks
    (λ b l. ap (λ (o : Option Held). table_has_copy o) (m.copies c b lt l)
    ∙ has_copy-entry (client_at v c b) (client_at v c b).held (client_at v c b).wait)

-- the table says of each block of the memory which copy the client has
pub copy-is : (v : View) (h : Layers) (c b : ℕ) → Means v h → c < v.geometry.clients → b < v.geometry.memory_blocks
    → copy_in (held_at h.copies c b) ≡ (client_at v c b).held
copy-is v h c b m lt l = ap copy_in (m.copies c b lt l) ∙ copy_in-entry (client_at v c b).held (client_at v c b).wait

-- and which answer it waits for
pub wait-is : (v : View) (h : Layers) (c b : ℕ) → Means v h → c < v.geometry.clients → b < v.geometry.memory_blocks
    → wait_in (held_at h.copies c b) ≡ (client_at v c b).wait
wait-is v h c b m lt l = ap wait_in (m.copies c b lt l) ∙ wait_in-entry (client_at v c b).held (client_at v c b).wait

-- and which permission its copy has
pub perm-is : (v : View) (h : Layers) (c b : ℕ) → Means v h → c < v.geometry.clients → b < v.geometry.memory_blocks
    → perm_in (held_at h.copies c b) ≡ perm_at v c b
perm-is v h c b m lt l = ap perm_in (m.copies c b lt l) ∙ perm_in-entry (client_at v c b).held (client_at v c b).wait

-- the tables after a copy was put in, said of another name of that copy
pub put-is : (old new : Tables) (c b : ℕ) (copy later : CachedCopy) (wait next : Awaited) → copy ≡ later → wait ≡ next
    → ((x y : ℕ) → held_at new x y ≡ cond (is_cell c b x y) (entry_with copy wait) (held_at old x y))
    → (x y : ℕ) → held_at new x y ≡ cond (is_cell c b x y) (entry_with later next) (held_at old x y)
put-is old new c b copy later wait next e f after x y =
    after x y
    ∙ ap (λ (p : CachedCopy). cond (is_cell c b x y) (entry_with p wait) (held_at old x y)) e
    ∙ ap (λ (w : Awaited). cond (is_cell c b x y) (entry_with later w) (held_at old x y)) f

-- the table has an entry of a block just while the client has a copy of it or waits for an answer about it
pub has_entry-is : (v : View) (h : Layers) (c b : ℕ) → Means v h → c < v.geometry.clients → b < v.geometry.memory_blocks
    → is_some (held_at h.copies c b) ≡ has_entry (client_at v c b)
has_entry-is v h c b m lt l = ap (λ (o : Option Held). is_some o) (m.copies c b lt l) ∙ is_some-entry (client_at v c b).held (client_at v c b).wait

-- the tables after a client that keeps its copy waits for an answer
pub waits-is : (v : View) (h : Layers) (new : Tables) (c b : ℕ) (wait : Awaited) → Means v h
    → c < v.geometry.clients → b < v.geometry.memory_blocks → has_entry_for (client_at v c b).held wait ≡ true
    → ((x y : ℕ) → held_at new x y ≡ cond (is_cell c b x y) (Some (waiting wait (held_at h.copies c b))) (held_at h.copies x y))
    → (x y : ℕ) → held_at new x y ≡ cond (is_cell c b x y) (entry_with (client_at v c b).held wait) (held_at h.copies x y)
waits-is v h new c b wait m lt l some after x y =
    let k : Client = client_at v c b in
    after x y
    ∙ ap (λ (o : Option Held). cond (is_cell c b x y) o (held_at h.copies x y))
    (ap (λ (o : Option Held). Some (waiting wait o)) (m.copies c b lt l) ∙ waiting-entry k.held k.wait wait some)

-- the tables after it waits for nothing any more
pub ended-is : (v : View) (h : Layers) (new : Tables) (c b : ℕ) → Means v h → c < v.geometry.clients → b < v.geometry.memory_blocks
    → ((x y : ℕ) → held_at new x y ≡ cond (is_cell c b x y) (ended (held_at h.copies c b)) (held_at h.copies x y))
    → (x y : ℕ) → held_at new x y ≡ cond (is_cell c b x y) (entry_with (client_at v c b).held Nothing) (held_at h.copies x y)
ended-is v h new c b m lt l after x y =
    let k : Client = client_at v c b in
    after x y
    ∙ ap (λ (o : Option Held). cond (is_cell c b x y) o (held_at h.copies x y))
    (ap (λ (o : Option Held). ended o) (m.copies c b lt l) ∙ ended-entry k.held k.wait)
