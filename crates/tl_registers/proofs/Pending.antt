-- Whether a Probe or a Grant is pending, as the protocol says it.
use Rattle.std.proofs.Common.{◌≡◌, ℕ, zero, suc, ◌<◌, ◌==◌, not, Bool, true, false, List, [], ◌∷◌, refl, ◌∙◌, ap, arith, inl, inr, eqb-true, eq-eqb}
use Rattle.tl_types.proofs.Booleans.{or-else}
use Rattle.std.specs.List.{list_any}
use Rattle.std.proofs.lemmas.Bool.{cases_eq, cases_Bool, or_parts, not-false}
use Rattle.tl_types.specs.Message.{is_probe_ack, is_grant}
use Rattle.tl_protocol.specs.declared.client.Client.{Client}
use Rattle.tl_protocol.specs.declared.home.Outward.{Outward}
use Rattle.tl_protocol.specs.declared.home.Outward.TheVariants.{Quiet, Get, Data, Put, PutAck}
use Rattle.tl_protocol.specs.declared.shape.Shape.{Shape}
use Rattle.tl_protocol.specs.Client.{NoProbePending, NoGrantPending}
use Rattle.tl_protocol.specs.Pending.{IsGrantPending}
use Rattle.tl_protocol.specs.Protocol.{Block, NoProbe, NoGrant}
use Rattle.tl_registers.specs.Pending.{has_first, is_probed, has_grant_pending, any_below, probe_pending, grant_pending, is_quiet, PendingIsTheProtocols}

-- ## Tests below a number

-- where none below n passes, this one does not
pub any_below-false : (test : ℕ → Bool) (n x : ℕ) → any_below test n ≡ false → x < n → test x ≡ false
any_below-false test zero x h l = absurd (omega arith)
any_below-false test (suc n) x h l =
    let k = or_parts (any_below test n) (test n) h in
    elim (cases_eq x n) [
      | inl e ↦ ap test e ∙ k.1
      | inr e ↦ any_below-false test n x k.0 (omega arith)
    ]

-- where each below n fails, none passes
pub any_below-none : (test : ℕ → Bool) (n : ℕ) → ((x : ℕ) → x < n → test x ≡ false) → any_below test n ≡ false
any_below-none test zero h = refl
any_below-none test (suc n) h =
    let before = any_below-none test n (λ x l. h x (omega arith)) in
    let here = h n (omega arith) in
    rw (before, here) refl

-- ## One client

-- where there is no first one there is none
no-first : {X : Type 0} (xs : List X) → has_first xs ≡ false → xs ≡ []
no-first [] h = refl
no-first (x ∷ xs) h = cc

-- where the test finds no Probe pending at a client, none is
pub probe-free : (k : Client) → is_probed k ≡ false → NoProbePending k
probe-free k h =
    let both = or_parts (has_first k.b) (list_any is_probe_ack k.c) h in
    (no-first k.b both.0, both.1)

-- and where none is, it finds none
pub free-probe : (k : Client) → NoProbePending k → is_probed k ≡ false
free-probe k h = rw (h.0, h.1) refl

-- where the test finds no Grant pending at a client, none is
pub grant-free : (k : Client) → has_grant_pending k ≡ false → NoGrantPending k
grant-free k h =
    let both = or_parts (list_any is_grant k.d) (not (k.e == 0)) h in
    (both.0, eqb-true k.e 0 (not-false (k.e == 0) both.1))

-- and where none is, it finds none
pub free-grant : (k : Client) → NoGrantPending k → has_grant_pending k ≡ false
free-grant k h =
    let e : (k.e == 0) ≡ true = eq-eqb k.e 0 h.1 in
    rw (h.0, e) refl

-- ## All clients

-- where the test finds no Probe of the block pending, none is
pub no-probe : (shape : Shape) (s : Block) → probe_pending shape s ≡ false → NoProbe shape s
no-probe shape s h = λ x l. probe-free (s.client x) (any_below-false (λ c. is_probed (s.client c)) shape.clients x h l)

-- and where none is, it finds none
pub probe-none : (shape : Shape) (s : Block) → NoProbe shape s → probe_pending shape s ≡ false
probe-none shape s h = any_below-none (λ c. is_probed (s.client c)) shape.clients (λ x l. free-probe (s.client x) (h x l))

-- where the test finds no Grant of the block pending, none is
pub no-grant : (shape : Shape) (s : Block) → grant_pending shape s ≡ false → NoGrant shape s
no-grant shape s h = λ x l. grant-free (s.client x) (any_below-false (λ c. has_grant_pending (s.client c)) shape.clients x h l)

-- and where none is, it finds none
pub grant-none : (shape : Shape) (s : Block) → NoGrant shape s → grant_pending shape s ≡ false
grant-none shape s h = any_below-none (λ c. has_grant_pending (s.client c)) shape.clients (λ x l. free-grant (s.client x) (h x l))

-- where some number below n passes, here is one
any_below-some : (test : ℕ → Bool) (n : ℕ) → any_below test n ≡ true → (x : ℕ) × (test x ≡ true)
any_below-some test zero h = cc
any_below-some test (suc n) h =
    elim (cases_Bool (any_below test n)) [
      | inl e ↦ any_below-some test n e
      | inr e ↦ (n, or-else (any_below test n) (test n) h e)
    ]

-- a number of GrantAcks that is not 0 is above 0
above-zero : (n : ℕ) → not (n == 0) ≡ true → 0 < n
above-zero zero h = cc
above-zero (suc n) h = omega arith

-- where the test finds a Grant pending at a client, it is pending there
some-pending : (k : Client) → has_grant_pending k ≡ true → IsGrantPending k
some-pending k h =
    elim (cases_Bool (list_any is_grant k.d)) [
      | inl e ↦ inl e
      | inr e ↦ let one = or-else (list_any is_grant k.d) (not (k.e == 0)) h e in inr (above-zero k.e one)
    ]

-- a client of which a Grant is pending
pub some-granted : (shape : Shape) (s : Block) → grant_pending shape s ≡ true → (x : ℕ) × IsGrantPending (s.client x)
some-granted shape s h =
    let y = any_below-some (λ c. has_grant_pending (s.client c)) shape.clients h in (y.0, some-pending (s.client y.0) y.1)

-- where the test finds nothing between home and the memory, nothing passes
pub quiet-is : (o : Outward) → is_quiet o ≡ true → o ≡ Quiet
quiet-is Quiet h = refl
quiet-is Get h = cc
quiet-is (Data bytes) h = cc
quiet-is (Put bytes) h = cc
quiet-is PutAck h = cc

-- these answers are the protocol's own
pub pending-is-the-protocols : PendingIsTheProtocols
pending-is-the-protocols shape s = (
  (no-probe shape s, probe-none shape s),
  (no-grant shape s, grant-none shape s),
  (quiet-is s.outward, λ e. ap is_quiet e),
)
