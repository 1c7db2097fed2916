-- No other client is recorded above None.
use Rattle.std.proofs.Common.{◌≡◌, ◌≢◌, ◌<◌, ℕ, zero, suc, true, refl, arith, inl, inr}
use Rattle.std.proofs.lemmas.Bool.{cases_eq, and_parts, and_from, or_left, or_right, ne_eqb, eq-eqb}
use Rattle.tl_protocol.proofs.Blocks.{none_is}
use Rattle.tl_types.proofs.Booleans.{or-else}
use Rattle.tl_types.specs.declared.permission.Perm.TheVariants.{None as p_None}
use Rattle.tl_protocol.specs.declared.client.Client.{Client}
use Rattle.tl_protocol.specs.Protocol.{is_alone, is_none}

-- where the test says that a client is alone, no other one is recorded above None
pub room_from_alone : (n c : ℕ) (client : ℕ → Client) → is_alone n c client ≡ true
    → (x : ℕ) → x < n → x ≢ c → (client x).recorded ≡ p_None
room_from_alone zero c client h x l d = absurd (omega arith)
room_from_alone (suc n) c client h x l d =
    let both = and_parts _ _ h in
    elim (cases_eq x n) [
      | inl e ↦ rw e (none_is _ (or-else _ _ both.0 (ne_eqb n c (rw e at d))))
      | inr o ↦ room_from_alone n c client both.1 x (omega arith) d
    ]

-- and where no other one is, the test says so
pub alone_from_room : (n c : ℕ) (client : ℕ → Client)
    → ((x : ℕ) → x < n → x ≢ c → (client x).recorded ≡ p_None) → is_alone n c client ≡ true
alone_from_room zero c client h = refl
alone_from_room (suc n) c client h =
    and_from _ _
    (elim (cases_eq n c) [
      | inl e ↦ or_left _ _ (eq-eqb n c e)
      | inr o ↦ or_right _ _ (let none : (client n).recorded ≡ p_None = h n (omega arith) o in let t : is_none (client n).recorded ≡ true = rw none refl in t)
    ])
    (alone_from_room n c client (λ x l. h x (omega arith)))
