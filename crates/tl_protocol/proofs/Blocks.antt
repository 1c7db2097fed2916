-- What a change of one client leaves of what holds of the whole block.
use Rattle.std.proofs.Common.{◌≡◌, ◌≢◌, ℕ, ◌<◌, ◌≤◌, Bool, true, false, List, [], Option, Some, None, inl, inr, ⊎_elim, sym, refl, ap, ◌∙◌, subst, arith, cond, ◌==◌, if◌then◌else◌, eqb-true}
use Rattle.std.proofs.lemmas.Bool.{eqb-false, cases_lt}
use Rattle.tl_types.specs.declared.permission.Perm.{Perm}
use Rattle.tl_types.specs.declared.permission.Perm.TheVariants.{None as p_None, Branch, Tip}
use Rattle.tl_types.specs.declared.wait.Awaited.TheVariants.{ForGrant}
use Rattle.tl_protocol.specs.declared.shape.Shape.{Shape}
use Rattle.tl_protocol.specs.declared.client.Client.{Client}
use Rattle.tl_protocol.specs.declared.home.Line.{Line}
use Rattle.tl_protocol.specs.declared.home.Accepted.{Accepted}
use Rattle.tl_protocol.specs.declared.home.Outward.{Outward}
use Rattle.tl_protocol.specs.Protocol.{Block, NoGrant, NoProbe, NobodyRecorded, with_client, is_none}
use Rattle.tl_protocol.specs.Client.{fresh_client, NoProbePending, NoGrantPending}
use Rattle.tl_protocol.specs.Pending.{IsGrantPending, beside}
use Rattle.tl_types.specs.Permission.{rank}
use Rattle.tl_protocol.proofs.Invariant.{ClientIs, IsServed, Service, IsAlone, IsDirty, HomeIs, Invariant}

-- a record that the test of None meets is None
pub none_is : (p : Perm) → is_none p ≡ true → p ≡ p_None
none_is p_None h = refl
none_is Branch h = cc
none_is Tip h = cc

-- ## One client of all

-- the clients with one of them changed
abbrev pub put : (ℕ → Client) → ℕ → Client → ℕ → Client
put client c k x = if x == c then k else client x

-- what holds in both cases holds
pub picked : (P : Client → Type 0) (b : Bool) (k other : Client) → (b ≡ true → P k) → (b ≡ false → P other) → P (cond b k other)
picked P true k other here there = here refl
picked P false k other here there = there refl

-- what holds of the changed client and of the others
pub at_put :
    (P : Client → Type 0) (client : ℕ → Client) (c : ℕ) (k : Client) (x : ℕ) → (x ≡ c → P k) → (x ≢ c → P (client x))
    → P (put client c k x)
at_put P client c k x here there =
    picked P (x == c) k (client x) (λ e. here (eqb-true x c e)) (λ e. there (eqb-false x c e))

-- what holds of each of the first clients holds of all, if it holds of a fresh one
pub at_all :
    (P : Client → Type 0) (n : ℕ) (client : ℕ → Client) → ((x : ℕ) → (x < n → ⊥) → client x ≡ fresh_client)
    → P fresh_client → ((x : ℕ) → x < n → P (client x)) → (x : ℕ) → P (client x)
at_all P n client outside none each x =
    ⊎_elim (λ (inside : x < n). each x inside)
    (λ (g : n ≤ x). subst (λ (k : Client). P k) (sym (outside x (λ inside. omega arith))) none) (cases_lt x n)

-- a changed client is one of those that there are
pub put_outside :
    (n : ℕ) (client : ℕ → Client) (c : ℕ) (k : Client) → c < n → ((x : ℕ) → (x < n → ⊥) → client x ≡ fresh_client)
    → (x : ℕ) → (x < n → ⊥) → put client c k x ≡ fresh_client
put_outside n client c k inside outside x o =
    at_put (λ y. y ≡ fresh_client) client c k x (λ e. absurd (o (subst (λ (y : ℕ). y < n) (sym e) inside))) (λ n. outside x o)

-- what holds of each client
pub put_local :
    (now later : List ℕ) (client : ℕ → Client) (c : ℕ) (k : Client) → ClientIs later k
    → ((x : ℕ) → x ≢ c → ClientIs later (client x)) → (x : ℕ) → ClientIs later (put client c k x)
put_local now later client c k mine others x = at_put (λ y. ClientIs later y) client c k x (λ e. mine) (λ n. others x n)

-- a change that brings no Tip and takes no None keeps a record of Tip alone
pub put_alone :
    (client : ℕ → Client) (c : ℕ) (k : Client) → IsAlone client → (k.recorded ≡ Tip → (client c).recorded ≡ Tip)
    → ((client c).recorded ≡ p_None → k.recorded ≡ p_None) → IsAlone (put client c k)
put_alone client c k alone tip none x y apart =
    at_put (λ m. m.recorded ≡ Tip → (put client c k y).recorded ≡ p_None) client c k x
    (λ e t. at_put (λ m. m.recorded ≡ p_None) client c k y (λ f. absurd (apart (e ∙ sym f)))
    (λ n. alone c y (λ f. n (sym f)) (tip t)))
    (λ n t. at_put (λ m. m.recorded ≡ p_None) client c k y (λ f. none (alone x c n t)) (λ m. alone x y apart t))

-- home stays right where no record of None is lost and no bytes that it has not got
pub put_home :
    (now memory : List ℕ) (home : Option Line) (outward : Outward) (client : ℕ → Client) (c : ℕ) (k : Client)
    → ((client c).recorded ≡ p_None → k.recorded ≡ p_None) → (IsDirty (client c) → IsDirty k)
    → HomeIs now memory home outward client → HomeIs now memory home outward (put client c k)
put_home now memory None outward client c k none dirty h =
    ((λ x. at_put (λ m. m.recorded ≡ p_None) client c k x (λ e. none (h.0 c)) (λ n. h.0 x)), h.1)
put_home now memory (Some line) outward client c k none dirty h = (
  h.0,
  ⊎_elim (λ (e : line.bytes ≡ now). inl e)
      (λ (d : (x : ℕ) × IsDirty (client x)). inr (
        d.0,
        at_put IsDirty client c k d.0
            (λ e. dirty (subst (λ (y : ℕ). IsDirty (client y)) e d.1)) (λ n. d.1),
      )) h.1,
  h.2,
)

-- what holds of the Acquire that home serves
pub put_service :
    (accepted : Option Accepted) (client : ℕ → Client) (c : ℕ) (k : Client) → Service accepted client
    → (IsGrantPending k → IsGrantPending (client c))
    → ((x : ℕ) → IsGrantPending (client x) → NoProbePending k)
    → (IsServed accepted c → k.e ≡ 0 → (k.wait ≡ ForGrant) × (k.a ≡ []))
    → rank k.recorded ≤ rank (client c).recorded
    → Service accepted (put client c k)
put_service accepted client c k s before quiet waits lower = record {
  served = λ x. at_put (λ m. IsGrantPending m → IsServed accepted x) client c k x
      (λ e p. subst (λ (y : ℕ). IsServed accepted y) (sym e) (s.served c (before p))) (λ n p. s.served x p);
  no_probe = λ x y. at_put (λ m. IsGrantPending m → NoProbePending (put client c k y)) client c k x
      (λ e p. at_put NoProbePending client c k y (λ f. quiet c (before p)) (λ n. s.no_probe c y (before p)))
      (λ n p. at_put NoProbePending client c k y (λ f. quiet x p) (λ m. s.no_probe x y p));
  waits = λ x served. at_put (λ m. m.e ≡ 0 → (m.wait ≡ ForGrant) × (m.a ≡ [])) client c k x
      (λ e. waits (subst (λ (y : ℕ). IsServed accepted y) e served)) (λ n. s.waits x served);
  room = λ acquire e. at_put
      (λ m. IsGrantPending m → (x : ℕ) → x ≢ acquire.client → rank (put client c k x).recorded ≤ rank (beside acquire.grow))
      client c k acquire.client
      (λ same p x n. at_put (λ m. rank m.recorded ≤ rank (beside acquire.grow)) client c k x
      (λ here. absurd (n (here ∙ sym same)))
      (λ there. s.room acquire e (subst (λ (y : ℕ). IsGrantPending (client y)) (sym same) (before p)) x n))
      (λ apart p x n. at_put (λ m. rank m.recorded ≤ rank (beside acquire.grow)) client c k x
      (λ here. let most : rank (client c).recorded ≤ rank (beside acquire.grow) = s.room acquire e p c (λ q. n (here ∙ q)) in omega arith)
      (λ there. s.room acquire e p x n));
}

-- a change of one client alone, that home's record of it and the Grants on their way outlive
pub client_step :
    (shape : Shape) (now : List ℕ) (s : Block) (c : ℕ) (k : Client) → c < shape.clients → Invariant shape now s → ClientIs now k
    → k.recorded ≡ (s.client c).recorded
    → (IsGrantPending k → IsGrantPending (s.client c))
    → ((x : ℕ) → IsGrantPending (s.client x) → NoProbePending k)
    → (IsServed s.accepted c → k.e ≡ 0 → (k.wait ≡ ForGrant) × (k.a ≡ []))
    → (IsDirty (s.client c) → IsDirty k)
    → Invariant shape now (with_client s c k)
client_step shape now s c k inside holds mine same before quiet waits dirty = record {
  outside = put_outside shape.clients s.client c k inside holds.outside;
  local = put_local now now s.client c k mine (λ x n. holds.local x);
  service = put_service s.accepted s.client c k holds.service before quiet waits (omega (arith, ap rank same));
  alone = put_alone s.client c k holds.alone (λ t. sym same ∙ t) (λ n. same ∙ n);
  home = put_home now s.memory s.home s.outward s.client c k (λ n. same ∙ n) dirty holds.home;
}

-- no Grant is pending at a client where none is on D and no GrantAck on E
pub not_pending : (k : Client) → NoGrantPending k → IsGrantPending k → ⊥
not_pending k n (inl g) = let never : false ≡ true = sym n.0 ∙ g in cc
not_pending k n (inr p) = let none : k.e ≡ 0 = n.1 in omega arith

-- home serves at most one client
pub served_one : (accepted : Option Accepted) (x y : ℕ) → IsServed accepted x → IsServed accepted y → x ≡ y
served_one None x y p q = absurd p
served_one (Some acquire) x y p q = sym p ∙ q

-- no Grant is pending at any client
pub all_no_grant :
    (shape : Shape) (now : List ℕ) (s : Block) → Invariant shape now s → NoGrant shape s → (x : ℕ) → NoGrantPending (s.client x)
all_no_grant shape now s holds none = at_all NoGrantPending shape.clients s.client holds.outside (refl, refl) none

-- no Probe is pending at any client
pub all_no_probe :
    (shape : Shape) (now : List ℕ) (s : Block) → Invariant shape now s → NoProbe shape s → (x : ℕ) → NoProbePending (s.client x)
all_no_probe shape now s holds none = at_all NoProbePending shape.clients s.client holds.outside (refl, refl) none

-- nobody is recorded
pub all_none :
    (shape : Shape) (now : List ℕ) (s : Block) → Invariant shape now s → NobodyRecorded shape s → (x : ℕ) → (s.client x).recorded ≡ p_None
all_none shape now s holds none = at_all (λ k. k.recorded ≡ p_None) shape.clients s.client holds.outside refl none
