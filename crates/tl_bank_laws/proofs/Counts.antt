-- How many copies a client has, before and after an event.
use Rattle.std.proofs.Common.{◌≡◌, ◌≢◌, ℕ, zero, suc, ◌+◌, ◌^◌, ◌<◌, ◌≤◌, ◌==◌, ◌&&◌, not, Bool, true, false, cond, if◌then◌else◌, [], ◌∷◌, ◌++◌, refl, sym, ◌∙◌, ap, arith, eq-eqb}
use Rattle.std.proofs.lemmas.Bool.Decides.{nat_tests}
use Rattle.tl_types.specs.Count.{count_below}
use Rattle.tl_types.proofs.Counts.{count_below-change}
use Rattle.tl_types.specs.declared.permission.Perm.{Perm}
use Rattle.tl_types.specs.declared.permission.Perm.TheVariants.{None as p_None, Branch, Tip}
use Rattle.tl_map.specs.Limits.{IsLawful}
use Rattle.tl_protocol.specs.Copy.{perm_of}
use Rattle.tl_protocol.specs.Ledger.{has_copy}
use Rattle.tl_protocol.specs.Protocol.{is_none, block_of}
use Rattle.tl_protocol.specs.declared.client.Client.{Client}
use Rattle.tl_protocol.specs.declared.event.Event.{Event}
use Rattle.tl_protocol_lanes.proofs.Cells.{client-append}
use Rattle.tl_bank_spec.specs.Share.{recount}
use Rattle.tl_bank_spec.specs.View.{View, shape_of, client_at, perm_at}
use Rattle.tl_bank_spec.specs.Tables.{copies_at}
use Rattle.tl_bank_laws.proofs.Keep.{ClientStep}

-- the count after one copy changed is the one told anew from its permission before and later
recount-is : (before later : Perm) (n m : ℕ)
    → n + (if not (is_none later) then 1 else 0) ≡ m + (if not (is_none before) then 1 else 0) → m ≡ recount before later n
recount-is p_None p_None n m h = omega arith
recount-is p_None Branch n m h = omega arith
recount-is p_None Tip n m h = omega arith
recount-is Branch p_None n m h = omega arith
recount-is Branch Branch n m h = omega arith
recount-is Branch Tip n m h = omega arith
recount-is Tip p_None n m h = omega arith
recount-is Tip Branch n m h = omega arith
recount-is Tip Tip n m h = omega arith

-- the event's client on its block
at-own : (t u : Bool) (k old : Client) → t ≡ true → u ≡ true → cond (t && u) k old ≡ k
at-own true true k old h l = refl
at-own true false k old h l = cc
at-own false u k old h l = cc

-- any other block
at-other : (t u : Bool) (k old : Client) → u ≡ false → cond (t && u) k old ≡ old
at-other true true k old h = cc
at-other true false k old h = refl
at-other false u k old h = refl

-- the client's copy of the block after the event
pub step-perm : (v : View) (e : Event) (c : ℕ) (k : Client) (room : ℕ) → ClientStep v e c k
    → perm_at (record v { log = v.log ++ e ∷ []; room = room }) c (block_of (shape_of v.geometry) e) ≡ perm_of k.held
step-perm v e c k room step =
    let block : ℕ = block_of (shape_of v.geometry) e in
    ap (λ (x : Client). perm_of x.held)
    (client-append (shape_of v.geometry) v.image v.log e c k step.client c block
    ∙ at-own (c == c) (block == block) k (client_at v c block) (eq-eqb c c refl) (eq-eqb block block refl))

-- the number of its copies after the event
pub step-count : (v : View) (e : Event) (c : ℕ) (k : Client) (room : ℕ) → ClientStep v e c k
    → copies_at (record v { log = v.log ++ e ∷ []; room = room }) c
    ≡ recount (perm_at v c (block_of (shape_of v.geometry) e)) (perm_of k.held) (copies_at v c)
step-count v e c k room step =
    let block : ℕ = block_of (shape_of v.geometry) e in
    let next : View = record v { log = v.log ++ e ∷ []; room = room } in
    let p : ℕ → Bool = λ b. has_copy (client_at v c b) in
    let q : ℕ → Bool = λ b. has_copy (client_at next c b) in
    let here : q block ≡ not (is_none (perm_of k.held)) = ap (λ x. not (is_none x)) (step-perm v e c k room step) in
    let same : (b : ℕ) → b ≢ block → p b ≡ q b =
    λ b other.
    let no : (b == block) ≡ false = grind (arith, nat_tests) in
    ap (λ (x : Client). has_copy x)
    (sym (client-append (shape_of v.geometry) v.image v.log e c k step.client c b
    ∙ at-other (c == c) (b == block) k (client_at v c b) no)) in
    let change : count_below p v.geometry.memory_blocks + (if q block then 1 else 0)
    ≡ count_below q v.geometry.memory_blocks + (if p block then 1 else 0) =
    count_below-change p q v.geometry.memory_blocks block step.may.0 same in
    recount-is (perm_at v c block) (perm_of k.held) (count_below p v.geometry.memory_blocks) (count_below q v.geometry.memory_blocks)
    (rw here at change)

-- a client with a copy of a block has one at least
pub counts-one : (v : View) (c b : ℕ) → b < v.geometry.memory_blocks → is_none (perm_at v c b) ≡ false → 0 < copies_at v c
counts-one v c b l some =
    let p : ℕ → Bool = λ y. has_copy (client_at v c y) in
    let q : ℕ → Bool = λ y. if y == b then false else p y in
    let at : p b ≡ true = ap not some in
    let gone : q b ≡ false = rw (eq-eqb b b refl) refl in
    let change : count_below p v.geometry.memory_blocks + (if q b then 1 else 0)
    ≡ count_below q v.geometry.memory_blocks + (if p b then 1 else 0) =
    count_below-change p q v.geometry.memory_blocks b l
    (λ y other. let no : (y == b) ≡ false = grind (arith, nat_tests) in rw no refl) in
    let one : count_below p v.geometry.memory_blocks + 0 ≡ count_below q v.geometry.memory_blocks + 1 = rw (gone, at) at change in
    omega arith

-- no more pass than there are
count-few : (p : ℕ → Bool) (n : ℕ) → count_below p n ≤ n
count-few p zero = omega arith
count-few p (suc n) =
    let split : (t : Bool) → count_below p n + (if t then 1 else 0) ≤ suc n =
    λ t. elim t as (λ t. count_below p n + (if t then 1 else 0) ≤ suc n) [
      | true ↦ let rest = count-few p n in omega arith
      | false ↦ let rest = count-few p n in omega arith
    ] in
    split (p n)

-- and at most as many as there are blocks
pub copies-few : (v : View) (c : ℕ) → IsLawful v.geometry → copies_at v c < 2 ^ 31
copies-few v c lawful =
    let few = count-few (λ b. has_copy (client_at v c b)) v.geometry.memory_blocks in
    let most : v.geometry.memory_blocks ≤ 65536 = lawful.memory_blocks.most in
    omega arith
