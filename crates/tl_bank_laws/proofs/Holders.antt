-- Which clients have a copy of what, by their tables: only of this bank's blocks.
use Rattle.std.proofs.Common.{◌≡◌, ◌≢◌, ℕ, zero, suc, ◌+◌, ◌<◌, ◌==◌, Bool, true, false, cond, not, List, [], ◌∷◌, All, refl, sym, ◌∙◌, ap, subst, arith}
use Rattle.std.proofs.lemmas.Bool.{ne_eqb, cond-false, cond_both}
use Rattle.std.proofs.lemmas.List.Elements.{All-head, All-tail}
use Rattle.tl_types.specs.declared.permission.Perm.{Perm}
use Rattle.tl_types.specs.declared.permission.Perm.TheVariants.{None as p_None, Branch, Tip}
use Rattle.std.specs.Prelude.{◌↔◌}
use Rattle.tl_types.specs.Count.{count_below}
use Rattle.tl_types.specs.declared.wait.Awaited.{Awaited}
use Rattle.tl_types.specs.declared.wait.Awaited.TheVariants.{Nothing, ForGrant, ForReleaseAck}
use Rattle.tl_protocol.specs.Ledger.{has_copy, one_if, count_clients, count_pairs}
use Rattle.tl_protocol.specs.declared.client.Client.{Client}
use Rattle.tl_protocol.specs.declared.copy.CachedCopy.{CachedCopy}
use Rattle.tl_protocol.specs.declared.copy.CachedCopy.TheVariants.{Absent, Readable, Writable}
use Rattle.tl_protocol.specs.Protocol.{Block, is_none, block_of}
use Rattle.tl_protocol.specs.Runs.{at_reset, after_next, end_from}
use Rattle.tl_protocol.specs.declared.event.Event.{Event}
use Rattle.tl_protocol.specs.declared.shape.Shape.{Shape}
use Rattle.tl_copies.specs.Copies.{held_at}
use Rattle.tl_copies.specs.Held.{has_copy as table_has_copy, waits, is_awaited}
use Rattle.tl_bank_spec.specs.View.{View, shape_of, end_at, client_at, perm_at}
use Rattle.tl_bank_spec.specs.Own.{IsOwn}
use Rattle.tl_bank_spec.specs.Tables.{copies_at}
use Rattle.tl_bank_spec.specs.Views.{not_own, HasCopy, AwaitsNothing, blocks_below, pairs_below, pairs_at, copies_below}
use Rattle.tl_bank_laws.specs.Entry.{entry_with}
use Rattle.tl_bank_laws.specs.Layers.{Layers}
use Rattle.tl_bank_laws.specs.Means.{Means}
use Rattle.tl_bank_laws.proofs.Entries.{has_copy-entry}
use Rattle.tl_bank_laws.proofs.Views.{own-is, own-not}

-- ## Blocks of other banks

-- events of other blocks leave a block as it was
unmoved : (shape : Shape) (s : ℕ → Block) (es : List Event) (block : ℕ) → All (λ e. block ≢ block_of shape e) es
    → end_from shape s es block ≡ s block
unmoved shape s [] block other = refl
unmoved shape s (e ∷ es) block other =
    unmoved shape (after_next shape s e) es block (All-tail (λ e. block ≢ block_of shape e) e es other)
    ∙ cond-false (block == block_of shape e) _ (s block)
    (ne_eqb block (block_of shape e) (All-head (λ e. block ≢ block_of shape e) e es other))

-- the events of a log of own blocks are of blocks other than one that is not
others : (v : View) (block : ℕ) → not_own v block ≡ true → (es : List Event)
    → All (λ e. IsOwn v.geometry v.number (block_of (shape_of v.geometry) e)) es
    → All (λ e. block ≢ block_of (shape_of v.geometry) e) es
others v block other es own k d lt same =
    let here : IsOwn v.geometry v.number block = subst (λ b. IsOwn v.geometry v.number b) (sym same) (own k d lt) in
    let mine : not_own v block ≡ false = own-not v block here in cc

-- of a block that is not this bank's the log leaves what is there at reset
pub others-reset : (v : View) (h : Layers) (block : ℕ) → Means v h → not_own v block ≡ true
    → end_at v block ≡ at_reset (shape_of v.geometry) v.image block
others-reset v h block m other =
    unmoved (shape_of v.geometry) (at_reset (shape_of v.geometry) v.image) v.log block (others v block other v.log m.own)

-- ## What a table says of its client

-- an entry that counts as a copy is one of the log's
pub copy-held : (v : View) (h : Layers) (c b : ℕ) → Means v h → c < v.geometry.clients → b < v.geometry.memory_blocks
    → table_has_copy (held_at h.copies c b) ≡ has_copy (client_at v c b)
copy-held v h c b m lt l =
    ap table_has_copy (m.copies c b lt l) ∙ has_copy-entry (client_at v c b) (client_at v c b).held (client_at v c b).wait

-- a copy is above None
some-perm : (p : Perm) → not (is_none p) ≡ true → p ≢ p_None
some-perm p_None h e = cc
some-perm Branch h e = cc
some-perm Tip h e = cc

-- and nothing else is
no-perm : (p : Perm) → not (is_none p) ≡ false → p ≡ p_None
no-perm p_None h = refl
no-perm Branch h = cc
no-perm Tip h = cc

-- of another bank's block nobody has a copy
pub others-none : (v : View) (h : Layers) (c b : ℕ) → Means v h → not_own v b ≡ true → has_copy (client_at v c b) ≡ false
others-none v h c b m other = ap (λ (s : Block). has_copy (s.client c)) (others-reset v h b m other)

-- so the block of a copy is this bank's
pub copy-own : (v : View) (h : Layers) (c b : ℕ) → Means v h → c < v.geometry.clients → b < h.copies.blocks
    → table_has_copy (held_at h.copies c b) ≡ true → HasCopy v c b
copy-own v h c b m lt l some =
    let inside : b < v.geometry.memory_blocks = subst (λ n. b < n) m.copies_blocks l in
    let is : has_copy (client_at v c b) ≡ true = sym (copy-held v h c b m lt inside) ∙ some in
    let split : (t : Bool) → not_own v b ≡ t → not_own v b ≡ false =
    λ t. elim t as (λ t. not_own v b ≡ t → not_own v b ≡ false) [
      | true ↦ λ e. let none = others-none v h c b m e in cc
      | false ↦ λ e. e
    ] in
    (lt, own-is v b (split (not_own v b) refl), some-perm (perm_at v c b) is)

-- and where the table has no copy the client has none
pub no-copies : (v : View) (h : Layers) (c b : ℕ) → Means v h → table_has_copy (held_at h.copies c b) ≡ false → HasCopy v c b → ⊥
no-copies v h c b m none has =
    has.2 (no-perm (perm_at v c b) (sym (copy-held v h c b m has.0 has.1.0) ∙ none))

-- ## Answers

-- an entry is awaited as the log says
awaited-entry : (copy : CachedCopy) (wait : Awaited) → is_awaited (entry_with copy wait) ≡ waits wait
awaited-entry Absent Nothing = refl
awaited-entry Absent ForGrant = refl
awaited-entry Absent ForReleaseAck = refl
awaited-entry (Readable bytes) wait = refl
awaited-entry (Writable bytes dirty) wait = refl

-- what is not waited for is nothing
waits-nothing : (wait : Awaited) → waits wait ≡ false → wait ≡ Nothing
waits-nothing Nothing h = refl
waits-nothing ForGrant h = cc
waits-nothing ForReleaseAck h = cc

-- of a block of the memory the table says whether the client waits
awaits-as : (v : View) (h : Layers) (c b : ℕ) → Means v h → c < v.geometry.clients → b < v.geometry.memory_blocks
    → is_awaited (held_at h.copies c b) ≡ waits (client_at v c b).wait
awaits-as v h c b m lt l =
    ap is_awaited (m.copies c b lt l) ∙ awaited-entry (client_at v c b).held (client_at v c b).wait

-- of a block of the memory nobody waits for an answer where the client waits for none about the bank's blocks
none-awaited : (v : View) (h : Layers) (c b : ℕ) → Means v h → AwaitsNothing v c → b < v.geometry.memory_blocks
    → waits (client_at v c b).wait ≡ false
none-awaited v h c b m none l =
    elim (not_own v b) as (λ t. not_own v b ≡ t → waits (client_at v c b).wait ≡ false) [
      | true ↦ λ e. ap (λ (s : Block). waits (s.client c).wait) (others-reset v h b m e)
      | false ↦ λ e. ap waits (none b (own-is v b e))
    ] refl

-- a client waits for nothing of the bank just where its table says so
pub awaits-is : (v : View) (h : Layers) (c : ℕ) → Means v h → c < v.geometry.clients
    → ((b : ℕ) → b < h.copies.blocks → is_awaited (held_at h.copies c b) ≡ false) ↔ AwaitsNothing v c
awaits-is v h c m lt = (
  (λ none b own.
      waits-nothing (client_at v c b).wait
      (sym (awaits-as v h c b m lt own.0) ∙ none b (subst (λ n. b < n) (sym m.copies_blocks) own.0))),
  (λ none b l.
      let inside : b < v.geometry.memory_blocks = subst (λ n. b < n) m.copies_blocks l in
      awaits-as v h c b m lt inside ∙ none-awaited v h c b m none inside),
)

-- ## Copies by client and by block

-- the copies of the first n clients of the first m blocks
abbrev copies_to : View → ℕ → ℕ → ℕ
copies_to v zero m = 0
copies_to v (suc n) m = copies_to v n m + count_below (λ block. has_copy (client_at v n block)) m

-- a test as a number
one_is : (t : Bool) → one_if t ≡ cond t 1 0
one_is true = refl
one_is false = refl

-- of no blocks there are none
copies_none : (v : View) (n : ℕ) → copies_to v n 0 ≡ 0
copies_none v zero = refl
copies_none v (suc n) = let rest = copies_none v n in omega arith

-- one more block brings its own
copies_more : (v : View) (n m : ℕ) → copies_to v n (suc m) ≡ copies_to v n m + count_clients has_copy n (end_at v m).client
copies_more v zero m = refl
copies_more v (suc n) m =
    let rest = copies_more v n m in
    let one = one_is (has_copy (client_at v n m)) in
    omega arith

-- of all blocks they are the clients' copies
copies_all : (v : View) (n : ℕ) → copies_to v n v.geometry.memory_blocks ≡ copies_below v n
copies_all v zero = refl
copies_all v (suc n) = ap (λ (k : ℕ). k + copies_at v n) (copies_all v n)

-- where nobody has a copy none is counted
none_has : (n : ℕ) (client : ℕ → Client) → ((c : ℕ) → has_copy (client c) ≡ false) → count_clients has_copy n client ≡ 0
none_has zero client none = refl
none_has (suc n) client none =
    let first = ap one_if (none n) in let rest = none_has n client none in omega arith

-- the pairs of the first blocks are their copies
pairs_to : (v : View) (h : Layers) (m : ℕ) → Means v h → pairs_below has_copy v m ≡ copies_to v v.geometry.clients m
pairs_to v h zero means = sym (copies_none v v.geometry.clients)
pairs_to v h (suc m) means =
    let n : ℕ = v.geometry.clients in
    let row : ℕ = count_clients has_copy n (end_at v m).client in
    let more = copies_more v n m in
    let so_far = pairs_to v h m means in
    cond_both (not_own v m) (blocks_below v m) (m ∷ blocks_below v m)
    (λ (bs : List ℕ). count_pairs has_copy (shape_of v.geometry) (end_at v) bs ≡ copies_to v n (suc m))
    (λ other. let none : row ≡ 0 = none_has n (end_at v m).client (λ c. others-none v h c m means other) in omega arith)
    (λ _. omega arith)

-- What is held of a bank's blocks is the sum of its clients' copies.
pub held-is : (v : View) (h : Layers) → Means v h → pairs_at has_copy v ≡ copies_below v v.geometry.clients
held-is v h means = pairs_to v h v.geometry.memory_blocks means ∙ copies_all v v.geometry.clients
