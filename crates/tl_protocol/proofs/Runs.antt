-- Runs: one more event, a part of a run, the events of one block and of one bank.
use Rattle.std.proofs.Common.{◌≡◌, ℕ, Bool, true, false, cond, List, [], ◌∷◌, ◌++◌, ◌==◌, sym, refl, ap, ◌∙◌, subst, eqb-true, eq-eqb}
use Rattle.tl_protocol.specs.declared.event.Event.{Event}
use Rattle.tl_protocol.specs.declared.shape.Shape.{Shape}
use Rattle.tl_protocol.specs.Protocol.{Block, block_of, May, after}
use Rattle.tl_protocol.specs.Runs.{after_next, IsRunFrom, end_from, RunsGrowByOne, at_reset}
use Rattle.tl_protocol.specs.Merges.{on_block, IsBlockRunFrom, block_end_from, RunsAreOfBlocks, on_bank, EveryMergeIsARun}

-- what holds of both branches
pub cond_at :
    {A : Type 0} (P : A → Type 0) (t : Bool) (x y : A) → (t ≡ true → P x) → (t ≡ false → P y) → P (cond t x y)
cond_at P true x y here there = here refl
cond_at P false x y here there = there refl

-- a run goes on from the end of another
pub run_joined :
    (shape : Shape) (s : ℕ → Block) (before rest : List Event) → IsRunFrom shape s before
    → IsRunFrom shape (end_from shape s before) rest → IsRunFrom shape s (before ++ rest)
run_joined shape s [] rest r q = q
run_joined shape s (e ∷ es) rest r q = (r.0, run_joined shape (after_next shape s e) es rest r.1 q)

-- each front part of a run is one, and the rest goes on from its end
pub run_split :
    (shape : Shape) (s : ℕ → Block) (before rest : List Event) → IsRunFrom shape s (before ++ rest)
    → IsRunFrom shape s before × IsRunFrom shape (end_from shape s before) rest
run_split shape s [] rest r = (tt, r)
run_split shape s (e ∷ es) rest r =
    let both = run_split shape (after_next shape s e) es rest r.1 in ((r.0, both.0), both.1)

-- the end of two runs joined
pub end_joined :
    (shape : Shape) (s : ℕ → Block) (before rest : List Event)
    → end_from shape s (before ++ rest) ≡ end_from shape (end_from shape s before) rest
end_joined shape s [] rest = refl
end_joined shape s (e ∷ es) rest = end_joined shape (after_next shape s e) es rest

-- a run with one more event
pub runs_grow_by_one : RunsGrowByOne
runs_grow_by_one shape image = (
  tt,
  refl,
  λ events e. (
    (
      (λ r. let both = run_split shape _ events (e ∷ []) r in (both.0, both.1.0)),
      (λ p. run_joined shape _ events (e ∷ []) p.0 (p.1, tt)),
    ),
    end_joined shape _ events (e ∷ []),
  ),
)

-- ## The events of each block alone

-- the first event of the block is permitted
pub first_may :
    (shape : Shape) (s : Block) (e : Event) (es : List Event) (t : Bool) → t ≡ true
    → IsBlockRunFrom shape s (cond t (e ∷ es) es) → May shape s e
first_may shape s e es true q r = r.0
first_may shape s e es false q r = cc

-- the events of the block behind the first
pub rest_runs :
    (shape : Shape) (s : Block) (e : Event) (es : List Event) (t : Bool)
    → IsBlockRunFrom shape s (cond t (e ∷ es) es) → IsBlockRunFrom shape (cond t (after shape s e) s) es
rest_runs shape s e es true r = r.1
rest_runs shape s e es false r = r

-- an event of the block, and then a run of it
pub more_runs :
    (shape : Shape) (s : Block) (e : Event) (es : List Event) (t : Bool) → (t ≡ true → May shape s e)
    → IsBlockRunFrom shape (cond t (after shape s e) s) es → IsBlockRunFrom shape s (cond t (e ∷ es) es)
more_runs shape s e es true m r = (m refl, r)
more_runs shape s e es false m r = r

-- an event that is not of the block changes nothing of it
pub more_ends :
    (shape : Shape) (s : Block) (e : Event) (es : List Event) (t : Bool)
    → block_end_from shape (cond t (after shape s e) s) es ≡ block_end_from shape s (cond t (e ∷ es) es)
more_ends shape s e es true = refl
more_ends shape s e es false = refl

-- a run has a run of each block
pub to_blocks :
    (shape : Shape) (s : ℕ → Block) (events : List Event) → IsRunFrom shape s events → (block : ℕ)
    → IsBlockRunFrom shape (s block) (on_block shape block events)
to_blocks shape s [] r block = tt
to_blocks shape s (e ∷ es) r block =
    more_runs shape (s block) e (on_block shape block es) (block == block_of shape e)
    (λ q. subst (λ (b : ℕ). May shape (s b) e) (sym (eqb-true block (block_of shape e) q)) r.0)
    (to_blocks shape (after_next shape s e) es r.1 block)

-- runs of all blocks make a run
pub from_blocks :
    (shape : Shape) (s : ℕ → Block) (events : List Event)
    → ((block : ℕ) → IsBlockRunFrom shape (s block) (on_block shape block events)) → IsRunFrom shape s events
from_blocks shape s [] r = tt
from_blocks shape s (e ∷ es) r =
    let own : ℕ = block_of shape e in (
      first_may shape (s own) e (on_block shape own es) (own == own) (eq-eqb own own refl) (r own),
      from_blocks shape (after_next shape s e) es
          (λ block. rest_runs shape (s block) e (on_block shape block es) (block == own) (r block)),
    )

-- the run's end at a block is the block's
pub end_at_block :
    (shape : Shape) (s : ℕ → Block) (events : List Event) (block : ℕ)
    → end_from shape s events block ≡ block_end_from shape (s block) (on_block shape block events)
end_at_block shape s [] block = refl
end_at_block shape s (e ∷ es) block =
    end_at_block shape (after_next shape s e) es block
    ∙ more_ends shape (s block) e (on_block shape block es) (block == block_of shape e)

-- a run is a run of each block
pub runs_are_of_blocks : RunsAreOfBlocks
runs_are_of_blocks shape image events = (
  (to_blocks shape (at_reset shape image) events, from_blocks shape (at_reset shape image) events),
  end_at_block shape (at_reset shape image) events,
)

-- ## The events of each bank alone

-- an event that is not of the bank
pub not_taken : {A : Type 0} (t : Bool) (x y : A) → (t ≡ true → ⊥) → y ≡ cond t x y
not_taken true x y n = absurd (n refl)
not_taken false x y n = refl

-- an event of the block is one of its bank
pub block_of_bank :
    (shape : Shape) (block : ℕ) (e : Event) (es : List Event) (t : Bool) → ((block == block_of shape e) ≡ true → t ≡ true)
    → on_block shape block (cond t (e ∷ es) es)
    ≡ cond (block == block_of shape e) (e ∷ on_block shape block es) (on_block shape block es)
block_of_bank shape block e es true h = refl
block_of_bank shape block e es false h =
    not_taken (block == block_of shape e) (e ∷ on_block shape block es) (on_block shape block es) (λ q. let never = h q in cc)

-- the events of a block are those of it in its bank
pub block_in_bank :
    (shape : Shape) (bank_of : ℕ → ℕ) (block : ℕ) (events : List Event)
    → on_block shape block (on_bank shape bank_of (bank_of block) events) ≡ on_block shape block events
block_in_bank shape bank_of block [] = refl
block_in_bank shape bank_of block (e ∷ es) =
    let own : ℕ = block_of shape e in
    block_of_bank shape block e (on_bank shape bank_of (bank_of block) es) (bank_of block == bank_of own)
    (λ q. eq-eqb (bank_of block) (bank_of own) (ap bank_of (eqb-true block own q)))
    ∙ ap (λ (us : List Event). cond (block == own) (e ∷ us) us) (block_in_bank shape bank_of block es)

-- runs of banks, merged in any way, are a run
pub every_merge_is_a_run : EveryMergeIsARun
every_merge_is_a_run shape image bank_of logs events merge runs =
    let start : ℕ → Block = at_reset shape image in
    let same : (block : ℕ) → on_block shape block (logs (bank_of block)) ≡ on_block shape block events =
    λ block. ap (on_block shape block) (sym (merge (bank_of block))) ∙ block_in_bank shape bank_of block events in (
      from_blocks shape start events
          (λ block. subst (λ (es : List Event). IsBlockRunFrom shape (start block) es) (same block)
          (to_blocks shape start (logs (bank_of block)) (runs (bank_of block)) block)),
      λ block. end_at_block shape start events block
          ∙ (ap (block_end_from shape (start block)) (sym (same block))
          ∙ sym (end_at_block shape start (logs (bank_of block)) block)),
    )
