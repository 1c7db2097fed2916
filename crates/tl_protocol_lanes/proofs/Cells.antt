-- What one more event of a log leaves of each client, and of home, on each block.
use Rattle.std.proofs.Common.{◌≡◌, ℕ, ◌==◌, ◌&&◌, Bool, true, false, cond, List, [], ◌∷◌, ◌++◌, refl, sym, ap, ◌∙◌, subst, eqb-true}
use Rattle.std.proofs.lemmas.Bool.{and_parts}
use Rattle.tl_protocol.specs.declared.client.Client.{Client}
use Rattle.tl_protocol.specs.declared.event.Event.{Event}
use Rattle.tl_protocol.specs.declared.shape.Shape.{Shape}
use Rattle.tl_protocol.specs.Protocol.{Block, block_of, after}
use Rattle.tl_protocol.specs.Runs.{end_of}
use Rattle.tl_protocol_lanes.specs.Lists.{SameHome}
use Rattle.tl_protocol_lanes.proofs.Logs.{end_of-append}

-- the client is the event's, on its block
at_client : (t : Bool) (k own other : Client) → own ≡ other → cond t k own ≡ cond (t && true) k other
at_client true k own other e = refl
at_client false k own other e = e

-- on another block no client is
not_there : (t : Bool) (k other : Client) → other ≡ cond (t && false) k other
not_there true k other = refl
not_there false k other = refl

-- a client of a block, which is the event's or another
client_if :
    (own s next : Block) (c x : ℕ) (k : Client) (t : Bool)
    → ((y : ℕ) → next.client y ≡ cond (y == c) k (own.client y)) → (t ≡ true → s ≡ own)
    → (cond t next s).client x ≡ cond ((x == c) && t) k (s.client x)
client_if own s next c x k true is same =
    is x ∙ at_client (x == c) k (own.client x) (s.client x) (ap (λ (r : Block). r.client x) (sym (same refl)))
client_if own s next c x k false is same = not_there (x == c) k (s.client x)

-- the event's block
near :
    (shape : Shape) (image : List ℕ) (log : List Event) (e : Event) (block : ℕ) → (block == block_of shape e) ≡ true
    → end_of shape image log block ≡ end_of shape image log (block_of shape e)
near shape image log e block h = ap (end_of shape image log) (eqb-true block (block_of shape e) h)

-- the block after the event, which is the event's or another
next_if :
    (shape : Shape) (own s : Block) (e : Event) (t : Bool) → (t ≡ true → s ≡ own)
    → cond t (after shape s e) s ≡ cond t (after shape own e) s
next_if shape own s e true same = ap (λ (r : Block). after shape r e) (same refl)
next_if shape own s e false same = refl

-- where an event leaves one client of its block changed, one more event leaves that client of that block changed
pub client-append :
    (shape : Shape) (image : List ℕ) (log : List Event) (e : Event) (c : ℕ) (k : Client)
    → ((y : ℕ) → (after shape (end_of shape image log (block_of shape e)) e).client y
    ≡ cond (y == c) k ((end_of shape image log (block_of shape e)).client y))
    → (x block : ℕ)
    → (end_of shape image (log ++ e ∷ []) block).client x
    ≡ cond ((x == c) && (block == block_of shape e)) k ((end_of shape image log block).client x)
client-append shape image log e c k is x block =
    let own : Block = end_of shape image log (block_of shape e) in
    let s : Block = end_of shape image log block in
    ap (λ (t : ℕ → Block). (t block).client x) (end_of-append shape image log e)
    ∙ (ap (λ (r : Block). r.client x) (next_if shape own s e (block == block_of shape e) (near shape image log e block))
    ∙ client_if own s (after shape own e) c x k (block == block_of shape e) is (near shape image log e block))

-- what of the changed client is as it was
field_if :
    {X : Type 0} (f : Client → X) (k old : Client) (t : Bool) → (t ≡ true → f k ≡ f old) → f (cond t k old) ≡ f old
field_if f k old true same = same refl
field_if f k old false same = refl

-- a field that the event leaves as it was is so for each client of each block
pub field-append :
    {X : Type 0} (f : Client → X) (shape : Shape) (image : List ℕ) (log : List Event) (e : Event) (c : ℕ) (k : Client)
    → ((y : ℕ) → (after shape (end_of shape image log (block_of shape e)) e).client y
    ≡ cond (y == c) k ((end_of shape image log (block_of shape e)).client y))
    → f k ≡ f ((end_of shape image log (block_of shape e)).client c)
    → (x block : ℕ) → f ((end_of shape image (log ++ e ∷ []) block).client x) ≡ f ((end_of shape image log block).client x)
field-append f shape image log e c k is same x block =
    ap f (client-append shape image log e c k is x block)
    ∙ field_if f k ((end_of shape image log block).client x) ((x == c) && (block == block_of shape e))
    (λ h. let at = and_parts (x == c) (block == block_of shape e) h in
    same ∙ (ap (λ (y : ℕ). f ((end_of shape image log (block_of shape e)).client y)) (sym (eqb-true x c at.0))
    ∙ ap (λ (b : ℕ). f ((end_of shape image log b).client x)) (sym (eqb-true block (block_of shape e) at.1))))

-- on the event's block and on others
same_home_if :
    (shape : Shape) (s : Block) (e : Event) (t : Bool) → (t ≡ true → SameHome s (after shape s e))
    → SameHome s (cond t (after shape s e) s)
same_home_if shape s e true same = same refl
same_home_if shape s e false same = record { memory = refl; home = refl; accepted = refl; outward = refl }

-- where an event leaves home as it was, one more event leaves home as it was on each block
pub home-append :
    (shape : Shape) (image : List ℕ) (log : List Event) (e : Event)
    → SameHome (end_of shape image log (block_of shape e)) (after shape (end_of shape image log (block_of shape e)) e)
    → (block : ℕ) → SameHome (end_of shape image log block) (end_of shape image (log ++ e ∷ []) block)
home-append shape image log e same block =
    subst (λ (t : ℕ → Block). SameHome (end_of shape image log block) (t block)) (sym (end_of-append shape image log e))
    (same_home_if shape (end_of shape image log block) e (block == block_of shape e)
    (λ h. subst (λ (b : ℕ). SameHome (end_of shape image log b) (after shape (end_of shape image log b) e))
    (sym (eqb-true block (block_of shape e) h)) same))
