-- Two exchanges that compare as equal are the same.
use Rattle.std.proofs.Common.{◌≡◌, ◌&&◌, ℕ, zero, suc, Bool, true, false, cond, List, Option, Some, None, refl, sym, ap, ◌∙◌, arith, nat_eq, BTreeMap}
use Rattle.std.proofs.lemmas.Bool.{and_parts, eqb-true}
use Rattle.std.proofs.lemmas.Bool.Decides.{nat_tests}
use Rattle.std.specs.BTreeMap.{get}
use Rattle.std.specs.Option.{option_cmp, option_eq, option_flatten}
use Rattle.std.specs.Ordering.{eq_by_cmp, is_eq, nat_cmp, ordering_then}
use Rattle.std.specs.declared.cmp.Ordering.{Ordering}
use Rattle.std.specs.declared.cmp.Ordering.TheVariants.{Less, Equal, Greater}
use Rattle.tlwire_exchanges.specs.Exchange.{is_same, number_of}
use Rattle.tlwire_exchanges.specs.Opened.{after, by_key, first_of, key_of}
use Rattle.tlwire_exchanges.specs.declared.answers.Key.{Key}
use Rattle.tlwire_exchanges.specs.declared.exchange.Exchange.{Exchange}
use Rattle.tlwire_exchanges.specs.declared.exchange.Response.{Response}
use Rattle.tlwire_exchanges.specs.declared.exchange.Response.TheVariants.{Grant, GrantAck, ProbeAck, ReleaseAck, AccessAckData, AccessAck}

eq_then : (x y : Ordering) → is_eq (ordering_then x y) ≡ (is_eq x && is_eq y)
eq_then Less y = refl
eq_then Equal y = refl
eq_then Greater y = refl

eq_nat : (x y : ℕ) → is_eq (nat_cmp x y) ≡ nat_eq x y
eq_nat x y = grind (arith, nat_tests)

eq_option : (x y : Option ℕ) → is_eq (option_cmp nat_cmp x y) ≡ option_eq nat_eq x y
eq_option None None = refl
eq_option None (Some y) = refl
eq_option (Some x) None = refl
eq_option (Some x) (Some y) = eq_nat x y

-- the other way round
turned : (x y z : Bool) → (x && (y && z)) ≡ (z && (y && x))
turned true true true = refl
turned true true false = refl
turned true false true = refl
turned true false false = refl
turned false true true = refl
turned false true false = refl
turned false false true = refl
turned false false false = refl

-- exchanges compare as equal just where they are the same
pub compared : (a b : Exchange) → eq_by_cmp by_key (key_of a) (key_of b) ≡ is_same a b
compared a b =
    let block : is_eq (nat_cmp a.block b.block) ≡ nat_eq a.block b.block = eq_nat a.block b.block in
    let client : is_eq (option_cmp nat_cmp a.client b.client) ≡ option_eq nat_eq a.client b.client =
    eq_option a.client b.client in
    let r : ℕ = number_of a.response in
    let s : ℕ = number_of b.response in
    let response : is_eq (nat_cmp r s) ≡ nat_eq r s = eq_nat r s in
    simp (eq_then, block, client, response)
    (turned (nat_eq a.block b.block) (option_eq nat_eq a.client b.client) (nat_eq r s))

-- the response with a number
response_of : ℕ → Response
response_of zero = Grant
response_of (suc zero) = GrantAck
response_of (suc (suc zero)) = ProbeAck
response_of (suc (suc (suc zero))) = ReleaseAck
response_of (suc (suc (suc (suc zero)))) = AccessAckData
response_of (suc (suc (suc (suc (suc n))))) = AccessAck

back : (r : Response) → response_of (number_of r) ≡ r
unfolding response_of
back Grant = refl
back GrantAck = refl
back ProbeAck = refl
back ReleaseAck = refl
back AccessAckData = refl
back AccessAck = refl

same_number : (r s : Response) → number_of r ≡ number_of s → r ≡ s
same_number r s e = sym (back r) ∙ (ap response_of e ∙ back s)

same_option : (x y : Option ℕ) → option_eq nat_eq x y ≡ true → x ≡ y
same_option None None e = refl
same_option (Some x) (Some y) e = ap (λ (n : ℕ). Some n) (eqb-true x y e)
same_option None (Some y) e = cc
same_option (Some x) None e = cc

pub same_is : (a b : Exchange) → is_same a b ≡ true → a ≡ b
same_is a b e =
    let parts = and_parts (nat_eq (number_of a.response) (number_of b.response)) (option_eq nat_eq a.client b.client && nat_eq a.block b.block) e in
    let rest = and_parts (option_eq nat_eq a.client b.client) (nat_eq a.block b.block) parts.1 in
    let r : a.response ≡ b.response = same_number a.response b.response (eqb-true (number_of a.response) (number_of b.response) parts.0) in
    let c : a.client ≡ b.client = same_option a.client b.client rest.0 in
    let k : a.block ≡ b.block = eqb-true a.block b.block rest.1 in
    ap (λ (x : Response). (let y : Exchange = record { response = x; client = a.client; block = a.block } in y)) r
    ∙ (ap (λ (x : Option ℕ). (let y : Exchange = record { response = b.response; client = x; block = a.block } in y)) c
    ∙ ap (λ (x : ℕ). (let y : Exchange = record { response = b.response; client = b.client; block = x } in y)) k)

-- so a map changes at the exchange alone
pub changed : (m n : BTreeMap Key (Option ℕ)) (f e : Exchange) (key : Key) (v : Option ℕ) → key ≡ key_of f
    → get by_key n (key_of e) ≡ cond (eq_by_cmp by_key key (key_of e)) (Some v) (get by_key m (key_of e))
    → first_of n e ≡ cond (is_same f e) v (first_of m e)
changed m n f e key v own put =
    ap (λ (o : Option (Option ℕ)). option_flatten o)
    (put
    ∙ (ap (λ (k : Key). cond (eq_by_cmp by_key k (key_of e)) (Some v) (get by_key m (key_of e))) own
    ∙ ap (λ (t : Bool). cond t (Some v) (get by_key m (key_of e))) (compared f e)))
    ∙ by_test (is_same f e)
  where
    by_test : (t : Bool) → option_flatten (cond t (Some v) (get by_key m (key_of e))) ≡ cond t v (first_of m e)
    by_test true = refl
    by_test false = refl

-- where its first answer is taken, the one behind that is the first
pub taken : (next : List (Option ℕ)) (m n : BTreeMap Key (Option ℕ)) (f e : Exchange) (key : Key) (v : Option ℕ)
    → key ≡ key_of f → v ≡ after next (first_of m f)
    → get by_key n (key_of e) ≡ cond (eq_by_cmp by_key key (key_of e)) (Some v) (get by_key m (key_of e))
    → first_of n e ≡ cond (is_same f e) (after next (first_of m e)) (first_of m e)
taken next m n f e key v own is put = changed m n f e key v own put ∙ by_test (is_same f e) refl
  where
    by_test : (t : Bool) → is_same f e ≡ t → cond t v (first_of m e) ≡ cond t (after next (first_of m e)) (first_of m e)
    by_test true same = is ∙ ap (λ (x : Exchange). after next (first_of m x)) (same_is f e same)
    by_test false apart = refl
