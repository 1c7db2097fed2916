-- What one event leaves, block by block.
use Rattle.std.proofs.Common.{◌≡◌, ◌≢◌, ℕ, ◌<◌, ◌==◌, refl, sym, ◌∙◌, subst, inl, inr, eqb-true}
use Rattle.std.proofs.lemmas.Bool.{cases_Bool, eqb-false}
use Rattle.tl_protocol.specs.declared.event.Event.{Event}
use Rattle.tl_protocol.specs.Protocol.{Block, after, block_of}
use Rattle.tl_copies.specs.Copies.{held_at}
use Rattle.tl_bank_home.specs.Homes.{HomeState, outward_in}
use Rattle.tl_bank_spec.specs.View.{View, end_at, client_at, shape_of}
use Rattle.tl_bank_spec.specs.Own.{IsOwn}
use Rattle.tl_bank_laws.specs.Entry.{entry_of}
use Rattle.tl_bank_laws.specs.Layers.{Layers}
use Rattle.tl_bank_laws.specs.Means.{IsHomeOf, Means}
use Rattle.tl_bank_laws.proofs.Next.{block_next}

-- the block that an event is of
abbrev pub here : View → Event → ℕ
here v e = block_of (shape_of v.geometry) e

-- and what the event leaves of it
abbrev pub left : View → Event → Block
left v e = after (shape_of v.geometry) (end_at v (here v e)) e

-- what holds of its block then, and of each other as it was, holds of each block
pub each-next : (v : View) (e : Event) (P : ℕ → Block → Type 0) → P (here v e) (left v e)
    → ((b : ℕ) → b ≢ here v e → P b (end_at v b)) → (b : ℕ) → P b (block_next v e b)
each-next v e P at other b =
    elim (cases_Bool (b == here v e)) [
      | inl t ↦
          let P2 : ℕ → Type 0 = λ x. P x (after (shape_of v.geometry) (end_at v x) e) in
          rw t (subst P2 (sym (eqb-true b (here v e) t)) at)
      | inr t ↦ rw t (other b (eqb-false b (here v e) t))
    ]

-- an event that leaves the entries of its own block leaves those of all
pub entries-next : (v : View) (h : Layers) (e : Event) → Means v h
    → ((x : ℕ) → entry_of ((left v e).client x) ≡ entry_of (client_at v x (here v e)))
    → (x y : ℕ) → x < v.geometry.clients → y < v.geometry.memory_blocks → held_at h.copies x y ≡ entry_of ((block_next v e y).client x)
entries-next v h e m same x y lx ly =
    m.copies x y lx ly
    ∙ sym (each-next v e (λ b s. entry_of (s.client x) ≡ entry_of (client_at v x b)) (same x) (λ b ne. refl) y)

-- home's part of each block then, where the event's own block is one of the bank
pub homes-next : (v : View) (h : Layers) (e : Event) (new : HomeState) → Means v h → IsHomeOf new (here v e) (left v e)
    → ((b : ℕ) → b ≢ here v e → IsHomeOf h.home b (end_at v b) → IsHomeOf new b (end_at v b))
    → (b : ℕ) → IsOwn v.geometry v.number b → IsHomeOf new b (block_next v e b)
homes-next v h e new m at other b own =
    each-next v e (λ y s. IsOwn v.geometry v.number y → IsHomeOf new y s) (λ own. at) (λ y ne own. other y ne (m.home y own)) b own

-- of no other bank's block does anything pass then, where the event changes this of its own block alone
pub quiet-next : (v : View) (e : Event) (old new : HomeState) → IsOwn v.geometry v.number (here v e)
    → ((b : ℕ) → b ≢ here v e → outward_in new b ≡ outward_in old b)
    → (b : ℕ) → (IsOwn v.geometry v.number b → ⊥) → outward_in new b ≡ outward_in old b
quiet-next v e old new own other b apart =
    other b (λ same. apart (subst (λ (x : ℕ). IsOwn v.geometry v.number x) (sym same) own))
