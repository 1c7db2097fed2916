-- The rules that an event is under are, together, what permits it.
use Rattle.std.proofs.Common.{◌≡◌, ◌≢◌, ℕ, ◌<◌, zero, suc, List, [], ◌∷◌, length, get_or, refl, arith, lit<, sym, subst, ap, ◌+◌, ◌≤◌, ◌↔◌, below_more, Option, Some, None}
use Rattle.tl_types.specs.declared.wait.Awaited.{Awaited}
use Rattle.tl_types.specs.declared.wait.Awaited.TheVariants.{Nothing, ForGrant, ForReleaseAck}
use Rattle.tl_protocol.specs.declared.event.Event.{Event}
use Rattle.tl_protocol.specs.declared.event.Event.TheVariants.{Load, Store, SendAcquire, SendRelease, AnswerProbe, TakeGrant, TakeReleaseAck, AcceptAcquire, SendProbe, TakeC, SendGrant, TakeGrantAck, SendGet, Serve, TakeData, Drop, SendPut, TakePutAck}
use Rattle.tl_protocol.specs.declared.shape.Shape.{Shape}
use Rattle.tl_protocol.specs.Protocol.{Block, May, MayOn, block_of}
use Rattle.tl_rules.specs.Plain.{state_of_plain}
use Rattle.tl_rules.specs.PlainState.{PlainState}
use Rattle.tlcheck_rules.specs.declared.rule.Rule.{Rule}
use Rattle.tlcheck_rules.specs.declared.rule.Rule.TheVariants.{BlockIsThere}
use Rattle.tlcheck_rules.specs.Rules.{IsFirstBroken, Keeps, KeepsBefore, rule_at, rules_of}

-- each of these
abbrev Each : {X : Type 0} → (X → Type 0) → List X → Type 0
Each P [] = Unit {0}
Each P (x ∷ xs) = P x × Each P xs

-- each is so at each place
at_place : {X : Type 0} (P : X → Type 0) (xs : List X) (d : X) (k : ℕ) → Each P xs → k < length xs → P (get_or xs k d)
at_place P [] d k h lt = absurd (omega (arith, lt))
at_place P (x ∷ xs) d zero h lt = h.0
at_place P (x ∷ xs) d (suc k) h lt = at_place P xs d k h.1 (omega (arith, lt))

-- a client that waits neither for a Grant nor for a ReleaseAck waits for nothing, and the other way round
waits_for_nothing : (w : Awaited) → w ≢ ForGrant → w ≢ ForReleaseAck → w ≡ Nothing
waits_for_nothing Nothing g r = refl
waits_for_nothing ForGrant g r = absurd (g refl)
waits_for_nothing ForReleaseAck g r = absurd (r refl)

not_for_grant : (w : Awaited) → w ≡ Nothing → w ≢ ForGrant
not_for_grant w h = λ g. cc

not_for_release : (w : Awaited) → w ≡ Nothing → w ≢ ForReleaseAck
not_for_release w h = λ r. cc

-- an event that keeps its rules is permitted
pub permitted : (shape : Shape) (s : Block) (e : Event) → KeepsBefore shape s e (length (rules_of e)) → May shape s e
permitted shape s (Load access) h = (h 0 (lit< tt), (h 1 (lit< tt), (h 4 (lit< tt)).1))
permitted shape s (Store access) h = (h 0 (lit< tt), (h 1 (lit< tt), (h 2 (lit< tt), (h 3 (lit< tt)).1)))
permitted shape s (SendAcquire c block grow) h =
    (h 0 (lit< tt), (h 1 (lit< tt), (waits_for_nothing (s.client c).wait (h 2 (lit< tt)).1 (h 3 (lit< tt)).1, (h 4 (lit< tt)).1)))
permitted shape s (SendRelease c block prune) h =
    (h 0 (lit< tt), (h 1 (lit< tt), (waits_for_nothing (s.client c).wait (h 3 (lit< tt)).1 (h 2 (lit< tt)).1, (h 4 (lit< tt)).1)))
permitted shape s (AnswerProbe c block) h = (h 0 (lit< tt), (h 1 (lit< tt), ((h 2 (lit< tt)).1, (h 3 (lit< tt)).1)))
permitted shape s (TakeGrant c block) h = (h 0 (lit< tt), (h 1 (lit< tt), (h 2 (lit< tt)).1))
permitted shape s (TakeReleaseAck c block) h = (h 0 (lit< tt), (h 1 (lit< tt), (h 2 (lit< tt)).1))
permitted shape s (AcceptAcquire c block) h = (h 0 (lit< tt), (h 1 (lit< tt), (h 2 (lit< tt)).1, h 3 (lit< tt)))
permitted shape s (SendProbe c block asked) h = (h 0 (lit< tt), (h 1 (lit< tt), ((h 2 (lit< tt)).1, (h 3 (lit< tt)).1, h 4 (lit< tt))))
permitted shape s (TakeC c block) h = (h 0 (lit< tt), (h 1 (lit< tt), (h 2 (lit< tt)).1))
permitted shape s (SendGrant c block) h = (h 0 (lit< tt), (h 1 (lit< tt), (h 6 (lit< tt), h 3 (lit< tt), h 4 (lit< tt), h 5 (lit< tt))))
permitted shape s (TakeGrantAck c block) h = (h 0 (lit< tt), (h 1 (lit< tt), (h 2 (lit< tt)).1))
permitted shape s (SendGet block) h = (h 0 (lit< tt), (h 1 (lit< tt), h 2 (lit< tt), h 3 (lit< tt)))
permitted shape s (Serve block) h = (h 0 (lit< tt), h 1 (lit< tt))
permitted shape s (TakeData block) h = (h 0 (lit< tt), h 1 (lit< tt))
permitted shape s (Drop block) h =
    (h 0 (lit< tt), (h 6 (lit< tt), record { nobody = h 2 (lit< tt); no_probe = (h 1 (lit< tt)).0; no_grant = (h 1 (lit< tt)).1; not_accepted = h 3 (lit< tt); quiet = h 4 (lit< tt) }))
permitted shape s (SendPut block) h =
    (h 0 (lit< tt), (h 6 (lit< tt), record { nobody = h 2 (lit< tt); no_probe = (h 1 (lit< tt)).0; no_grant = (h 1 (lit< tt)).1; not_accepted = h 3 (lit< tt); quiet = h 4 (lit< tt) }))
permitted shape s (TakePutAck block) h = (h 0 (lit< tt), h 1 (lit< tt))

-- a permitted event keeps each of its rules
each_kept : (shape : Shape) (s : Block) (e : Event) → May shape s e → Each (Keeps shape s e) (rules_of e)
each_kept shape s (Load access) m = (m.0, (m.1.0, (m.1.1.0, ((m.1.0, m.1.1.1), ((m.1.0, m.1.1), tt)))))
each_kept shape s (Store access) m = (m.0, (m.1.0, (m.1.1.0, ((m.1.0, m.1.1.1), tt))))
each_kept shape s (SendAcquire c block grow) m =
    (m.0, (m.1.0, ((m.1.0, not_for_grant _ m.1.1.0), ((m.1.0, not_for_release _ m.1.1.0), ((m.1.0, m.1.1.1), tt)))))
each_kept shape s (SendRelease c block prune) m =
    (m.0, (m.1.0, ((m.1.0, not_for_release _ m.1.1.0), ((m.1.0, not_for_grant _ m.1.1.0), ((m.1.0, m.1.1.1), tt)))))
each_kept shape s (AnswerProbe c block) m = (m.0, (m.1.0, ((m.1.0, m.1.1.0), ((m.1.0, m.1.1.1), tt))))
each_kept shape s (TakeGrant c block) m = (m.0, (m.1.0, ((m.1.0, m.1.1), tt)))
each_kept shape s (TakeReleaseAck c block) m = (m.0, (m.1.0, ((m.1.0, m.1.1), tt)))
each_kept shape s (AcceptAcquire c block) m = (m.0, (m.1.0, ((m.1.0, m.1.1), (m.1.2, tt))))
each_kept shape s (SendProbe c block asked) m = (m.0, (m.1.0, ((m.1.0, m.1.1.0), ((m.1.0, m.1.1.1), (m.1.1.2, tt)))))
each_kept shape s (TakeC c block) m = (m.0, (m.1.0, ((m.1.0, m.1.1), tt)))
each_kept shape s (SendGrant c block) m = (m.0, (m.1.0, ((m.1.1.0.0, m.1.1.0.1), (m.1.1.1, (m.1.1.2, (m.1.1.3, (m.1.1.0, tt)))))))
each_kept shape s (TakeGrantAck c block) m = (m.0, (m.1.0, ((m.1.0, m.1.1), tt)))
each_kept shape s (SendGet block) m = (m.0, (m.1.0, (m.1.1, (m.1.2, tt))))
each_kept shape s (Serve block) m = (m.0, (m.1, tt))
each_kept shape s (TakeData block) m = (m.0, (m.1, tt))
each_kept shape s (Drop block) m =
    (m.0, ((m.1.1.no_probe, m.1.1.no_grant), (m.1.1.nobody, (m.1.1.not_accepted, (m.1.1.quiet, ((m.1.0.0, m.1.0.1), (m.1.0, tt)))))))
each_kept shape s (SendPut block) m =
    (m.0, ((m.1.1.no_probe, m.1.1.no_grant), (m.1.1.nobody, (m.1.1.not_accepted, (m.1.1.quiet, ((m.1.0.0, m.1.0.1), (m.1.0, tt)))))))
each_kept shape s (TakePutAck block) m = (m.0, (m.1, tt))

pub kept : (shape : Shape) (s : Block) (e : Event) → May shape s e → KeepsBefore shape s e (length (rules_of e))
kept shape s e m k lt = at_place (Keeps shape s e) (rules_of e) BlockIsThere k (each_kept shape s e m) lt

-- the block is looked at first
pub block_first : (e : Event) → (0 < length (rules_of e)) × (rule_at e 0 ≡ BlockIsThere)
block_first (Load access) = (lit< tt, refl)
block_first (Store access) = (lit< tt, refl)
block_first (SendAcquire c block grow) = (lit< tt, refl)
block_first (SendRelease c block prune) = (lit< tt, refl)
block_first (AnswerProbe c block) = (lit< tt, refl)
block_first (TakeGrant c block) = (lit< tt, refl)
block_first (TakeReleaseAck c block) = (lit< tt, refl)
block_first (AcceptAcquire c block) = (lit< tt, refl)
block_first (SendProbe c block asked) = (lit< tt, refl)
block_first (TakeC c block) = (lit< tt, refl)
block_first (SendGrant c block) = (lit< tt, refl)
block_first (TakeGrantAck c block) = (lit< tt, refl)
block_first (SendGet block) = (lit< tt, refl)
block_first (Serve block) = (lit< tt, refl)
block_first (TakeData block) = (lit< tt, refl)
block_first (Drop block) = (lit< tt, refl)
block_first (SendPut block) = (lit< tt, refl)
block_first (TakePutAck block) = (lit< tt, refl)

-- ## The first rule that is broken

module _ (shape : Shape) (s : Block) (e : Event) where
  -- an event of a block that is not there breaks the first rule
  pub no_block : shape.blocks ≤ block_of shape e → IsFirstBroken shape s e (Some BlockIsThere)
  no_block le = (0, (block_first e).0, (block_first e).1, (λ lt. omega (arith, le, lt)), λ k lt. absurd (omega (arith, lt)))

  -- an event that breaks a rule is not permitted
  pub not_permitted : (rule : Rule) → IsFirstBroken shape s e (Some rule) → ¬ May shape s e
  not_permitted rule f may = f.3 (subst (λ (r : Rule). Keeps shape s e r) f.2 (kept shape s e may f.0 f.1))

  -- so such an answer is not None, and the event is not permitted
  pub neither : (rule : Rule) → IsFirstBroken shape s e (Some rule) → (Some rule ≡ None) ↔ May shape s e
  neither rule f = ((λ same. cc), λ may. absurd (not_permitted rule f may))

  -- the rule at a place is the first that is broken
  pub broken_here : (i : ℕ) (rule : Rule) → i < length (rules_of e) → rule_at e i ≡ rule → ¬ Keeps shape s e rule
      → KeepsBefore shape s e i → IsFirstBroken shape s e (Some rule)
  broken_here i rule lt at not_kept before = (i, lt, at, not_kept, before)

  -- one more rule is kept
  pub one_more : (i : ℕ) (rule : Rule) → rule_at e i ≡ rule → Keeps shape s e rule → KeepsBefore shape s e i
      → KeepsBefore shape s e (i + 1)
  one_more i rule at keeps before =
      below_more (λ k. Keeps shape s e (rule_at e k)) i before (subst (λ (r : Rule). Keeps shape s e r) (sym at) keeps)

  -- all are kept
  pub all_kept : (rules : List Rule) → rules ≡ rules_of e → KeepsBefore shape s e (length rules) → IsFirstBroken shape s e None
  all_kept rules same before = subst (λ (rs : List Rule). KeepsBefore shape s e (length rs)) same before

-- The same, of the map and of a shape and a block that are its own.
module _ (p : PlainState) (e : Event) (shape : Shape) (same : shape ≡ p.shape) (rules : List Rule) (are : rules ≡ rules_of e) where
  -- the block of the event
  abbrev own : Shape → Block
  own sh = state_of_plain p (block_of sh e)

  -- the rule at a place of the list that is gone through
  at_index : (i : ℕ) → rule_at e i ≡ get_or rules i BlockIsThere
  at_index i = sym (ap (λ (rs : List Rule). get_or rs i BlockIsThere) are)

  pub first_broken : (b : Block) → b ≡ own shape → (i : ℕ) → i < length rules → KeepsBefore shape (own shape) e i
      → ¬ Keeps shape b e (get_or rules i BlockIsThere) → IsFirstBroken p.shape (own p.shape) e (Some (get_or rules i BlockIsThere))
  first_broken b state i lt before not_kept =
      subst (λ (x : Shape). IsFirstBroken x (own x) e (Some (get_or rules i BlockIsThere))) same
      (broken_here shape (own shape) e i _ (subst (λ (rs : List Rule). i < length rs) are lt) (at_index i)
      (λ k. not_kept (subst (λ (y : Block). Keeps shape y e (get_or rules i BlockIsThere)) (sym state) k)) before)

  pub refuses : (rule : Rule) → IsFirstBroken p.shape (own p.shape) e (Some rule) → (Some rule ≡ None) ↔ May p.shape (own p.shape) e
  refuses rule f = neither p.shape (own p.shape) e rule f

  pub goes_on : (b : Block) → b ≡ own shape → (i : ℕ) → KeepsBefore shape (own shape) e i
      → Keeps shape b e (get_or rules i BlockIsThere) → KeepsBefore shape (own shape) e (i + 1)
  goes_on b state i before keeps =
      one_more shape (own shape) e i _ (at_index i) (subst (λ (y : Block). Keeps shape y e (get_or rules i BlockIsThere)) state keeps) before

  -- an event that may come next on its block, which is there, is permitted
  pub may_come : (b : Block) → b ≡ own shape → block_of shape e < shape.blocks → MayOn shape b e → May p.shape (own p.shape) e
  may_come b state there may =
      subst (λ (x : Shape). May x (own x) e) same (there, subst (λ (y : Block). MayOn shape y e) state may)

  pub none_broken : KeepsBefore shape (own shape) e (length rules) → IsFirstBroken p.shape (own p.shape) e None
  none_broken before =
      subst (λ (x : Shape). IsFirstBroken x (own x) e None) same (all_kept shape (own shape) e rules are before)

  pub permits : KeepsBefore shape (own shape) e (length rules) → (◌≡◌ {A = Option Rule} None None) ↔ May p.shape (own p.shape) e
  permits before = ((λ _. permitted p.shape (own p.shape) e (none_broken before)), λ _. refl)
