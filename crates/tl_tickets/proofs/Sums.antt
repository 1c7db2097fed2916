-- Sums of shares, and counts of copies by client and by block.
use Rattle.std.proofs.Common.{◌≡◌, ℕ, zero, suc, ◌+◌, ◌<◌, ◌≤◌, Bool, true, false, cond, not, ◌==◌, ◌||◌, List, [], ◌∷◌, ◌++◌, length, get_or, All, Contains, Some, None, ⊎_elim, refl, sym, ap, ◌∙◌, subst, arith, length-append}
use Rattle.std.proofs.lemmas.Bool.{cond_both, lt-ltb, eq-eqb, false≢true, ne_eqb, cond-false, lt-leb, cases_lt}
use Rattle.std.proofs.lemmas.List.Elements.{All-head, All-tail}
use Rattle.tl_types.specs.Count.{count_below}
use Rattle.tl_map.specs.Places.{bank_of}
use Rattle.tl_protocol.specs.Ledger.{has_copy, one_if, count_clients, count_pairs}
use Rattle.tl_protocol.specs.Protocol.{Block, block_of}
use Rattle.tl_protocol.specs.Runs.{at_reset}
use Rattle.tl_protocol.specs.Merges.{on_block, block_end_from, RunsAreOfBlocks}
use Rattle.std.proofs.lemmas.List.Sums.{sum_by-append, sum_by-cons}
use Rattle.tl_protocol.specs.declared.client.Client.{Client}
use Rattle.tl_protocol.specs.declared.event.Event.{Event}
use Rattle.tl_bank_spec.specs.Cases.{no_client}
use Rattle.tl_bank_spec.specs.Share.{ShareView}
use Rattle.tl_bank_spec.specs.View.{View, shape_of, end_at, client_at}
use Rattle.tl_bank_spec.specs.Own.{IsOwn}
use Rattle.tl_bank_spec.specs.Tables.{copies_at}
use Rattle.tl_bank_spec.specs.Views.{not_own, blocks_below, pairs_below, pairs_at}
use Rattle.tl_tickets.specs.Shares.{share_at, sum_of, copies_below}

-- ## Shares

-- an element among others
record Among (xs : List ShareView) (x : ShareView) : Type 0 where
  front : List ShareView
  back : List ShareView
  is : xs ≡ front ++ x ∷ back

among : (xs : List ShareView) (x : ShareView) (k : ℕ) → k < length xs → get_or xs k x ≡ x → Among xs x
among [] x k lt is = absurd (omega arith)
among (y ∷ ys) x zero lt is = record { front = []; back = ys; is = ap (λ (h : ShareView). h ∷ ys) is }
among (y ∷ ys) x (suc k) lt is =
    let rest : Among ys x = among ys x k (omega arith) is in
    record { front = y ∷ rest.front; back = rest.back; is = ap (λ (hs : List ShareView). y ∷ hs) rest.is }

-- another is among the rest
still : (front : List ShareView) (x : ShareView) (back : List ShareView) (y : ShareView) → (y ≡ x → ⊥) → (k : ℕ)
    → k < length (front ++ x ∷ back) → get_or (front ++ x ∷ back) k y ≡ y → Contains (front ++ back) y
still [] x back y n zero lt is = absurd (n (sym is))
still [] x back y n (suc k) lt is = (k, omega arith, is)
still (z ∷ zs) x back y n zero lt is = (0, omega arith, is)
still (z ∷ zs) x back y n (suc k) lt is =
    let rest = still zs x back y n k (omega arith) is in (suc rest.0, omega (arith, rest.1), rest.2)

sum_with : (front : List ShareView) (x : ShareView) (back : List ShareView) → sum_of (front ++ x ∷ back) ≡ sum_of (front ++ back) + x.count
sum_with front x back =
    let count : ShareView → ℕ = λ h. h.count in
    let whole = sum_by-append count front (x ∷ back) in
    let one = sum_by-cons count x back in
    let rest = sum_by-append count front back in
    omega arith

-- The shares of a bank add up to the copies of its clients.
pub shares_add_up : (v : View) (n : ℕ) (shares : List ShareView) → length shares ≡ n
    → ((client : ℕ) → client < n → Contains shares (share_at v client)) → sum_of shares ≡ copies_below v n
shares_add_up v zero [] long each = refl
shares_add_up v zero (x ∷ xs) long each = absurd (omega arith)
shares_add_up v (suc n) shares long each =
    let own = each n (omega arith) in
    let x : ShareView = share_at v n in
    let a : Among shares x = among shares x own.0 own.1 own.2 in
    let whole = ap (λ (hs : List ShareView). length hs) a.is in
    let one = length-append a.front (x ∷ a.back) in
    let less = length-append a.front a.back in
    let fewer : length (a.front ++ a.back) ≡ n = omega arith in
    let more : (client : ℕ) → client < n → Contains (a.front ++ a.back) (share_at v client) =
    λ client lt.
    let there = subst (λ (hs : List ShareView). Contains hs (share_at v client)) a.is (each client (omega arith)) in
    still a.front x a.back (share_at v client) (λ e. let same : client ≡ n = ap (λ (h : ShareView). h.client) e in omega arith) there.0 there.1 there.2 in
    ap sum_of a.is ∙ (sum_with a.front x a.back ∙ ap (λ (s : ℕ). s + copies_at v n) (shares_add_up v n (a.front ++ a.back) fewer more))

-- ## Copies by client and by block

own_is : (v : View) (block : ℕ) → IsOwn v.geometry v.number block → not_own v block ≡ false
own_is v block own =
    ap (λ (t : Bool). not t || not (bank_of v.geometry block == v.number)) (lt-ltb block v.geometry.memory_blocks own.0)
    ∙ ap (λ (t : Bool). not t) (eq-eqb (bank_of v.geometry block) v.number own.1)

-- the log has no event of a block that is not the bank's
none_on : (v : View) (block : ℕ) → not_own v block ≡ true → (es : List Event)
    → All (λ e. IsOwn v.geometry v.number (block_of (shape_of v.geometry) e)) es → on_block (shape_of v.geometry) block es ≡ []
none_on v block other [] own = refl
none_on v block other (e ∷ es) own =
    let at : ℕ = block_of (shape_of v.geometry) e in
    let is = All-head (λ e. IsOwn v.geometry v.number (block_of (shape_of v.geometry) e)) e es own in
    let not_here : (block == at) ≡ false =
    ne_eqb block at (λ same. false≢true (sym (own_is v at is) ∙ (ap (not_own v) (sym same) ∙ other))) in
    cond-false (block == at) (e ∷ on_block (shape_of v.geometry) block es) (on_block (shape_of v.geometry) block es) not_here
    ∙ none_on v block other es (All-tail (λ e. IsOwn v.geometry v.number (block_of (shape_of v.geometry) e)) e es own)

-- nobody has a copy of it
no_copy : RunsAreOfBlocks → (v : View) → All (λ e. IsOwn v.geometry v.number (block_of (shape_of v.geometry) e)) v.log
    → (block : ℕ) → not_own v block ≡ true → (client : ℕ) → has_copy (client_at v client block) ≡ false
no_copy blocks v own block other client =
    let shape = shape_of v.geometry in
    ap (λ (b : Block). has_copy (b.client client)) ((blocks shape v.image v.log).1 block)
    ∙ ap (λ (es : List Event). has_copy ((block_end_from shape (at_reset shape v.image block) es).client client)) (none_on v block other v.log own)

none_has : (n : ℕ) (client : ℕ → Client) → ((c : ℕ) → has_copy (client c) ≡ false) → count_clients has_copy n client ≡ 0
none_has zero client none = refl
none_has (suc n) client none =
    let first = ap one_if (none n) in let rest = none_has n client none in omega arith

-- the copies of the first n clients of the first m blocks
abbrev copies_to : View → ℕ → ℕ → ℕ
copies_to v zero m = 0
copies_to v (suc n) m = copies_to v n m + count_below (λ block. has_copy (client_at v n block)) m

one_is : (t : Bool) → one_if t ≡ cond t 1 0
one_is true = refl
one_is false = refl

copies_none : (v : View) (n : ℕ) → copies_to v n 0 ≡ 0
copies_none v zero = refl
copies_none v (suc n) = let rest = copies_none v n in omega arith

copies_more : (v : View) (n m : ℕ) → copies_to v n (suc m) ≡ copies_to v n m + count_clients has_copy n (end_at v m).client
copies_more v zero m = refl
copies_more v (suc n) m =
    let rest = copies_more v n m in
    let one = one_is (has_copy (client_at v n m)) in
    omega arith

copies_all : (v : View) (n : ℕ) → copies_to v n v.geometry.memory_blocks ≡ copies_below v n
copies_all v zero = refl
copies_all v (suc n) = ap (λ (k : ℕ). k + copies_at v n) (copies_all v n)

module _ (blocks : RunsAreOfBlocks) (v : View) (own : All (λ e. IsOwn v.geometry v.number (block_of (shape_of v.geometry) e)) v.log) where
  pairs_to : (m : ℕ) → pairs_below has_copy v m ≡ copies_to v v.geometry.clients m
  pairs_to zero = sym (copies_none v v.geometry.clients)
  pairs_to (suc m) =
      let shape = shape_of v.geometry in
      let n : ℕ = v.geometry.clients in
      let row : ℕ = count_clients has_copy n (end_at v m).client in
      let more = copies_more v n m in
      let so_far = pairs_to m in
      cond_both (not_own v m) (blocks_below v m) (m ∷ blocks_below v m)
      (λ (bs : List ℕ). count_pairs has_copy shape (end_at v) bs ≡ copies_to v n (suc m))
      (λ other. let none : row ≡ 0 = none_has n (end_at v m).client (no_copy blocks v own m other) in omega arith)
      (λ _. omega arith)

  pub held_is : pairs_at has_copy v ≡ copies_below v v.geometry.clients
  held_is = pairs_to v.geometry.memory_blocks ∙ copies_all v v.geometry.clients

-- ## A client's share as it was looked for

abbrev make : ℕ → ℕ → ℕ → ShareView
make client bank count = record { client = client; bank = bank; count = count }

-- the copies that a bank says of a client that is there
copies_given : (v : View) (client copies : ℕ) → client < v.geometry.clients
    → Some copies ≡ cond (no_client v client) None (Some (copies_at v client)) → copies ≡ copies_at v client
copies_given v client copies lt is =
    let e : Some copies ≡ Some (copies_at v client) =
    is ∙ cond-false (no_client v client) None (Some (copies_at v client)) (lt-leb v.geometry.clients client lt) in cc

pub looked_for : (v : View) (client other bank copies : ℕ) → client < v.geometry.clients → other ≡ client → bank ≡ v.number
    → Some copies ≡ cond (no_client v other) None (Some (copies_at v other))
    → record { client = other; bank = bank; count = copies } ≡ share_at v client
looked_for v client other bank copies lt p q some =
    let r : copies ≡ copies_at v other = copies_given v other copies (subst (λ (k : ℕ). k < v.geometry.clients) (sym p) lt) some in
    ap (λ (k : ℕ). make other bank k) r
    ∙ (ap (λ (k : ℕ). make k bank (copies_at v k)) p ∙ ap (λ (k : ℕ). make client k (copies_at v client)) q)

pub one_more : (P : ℕ → Type 0) (n : ℕ) → ((k : ℕ) → k < n → P k) → P n → (k : ℕ) → k < n + 1 → P k
one_more P n h p k l = ⊎_elim (λ (lt : k < n). h k lt) (λ (ge : n ≤ k). let e : n ≡ k = omega arith in subst P e p) (cases_lt k n)
