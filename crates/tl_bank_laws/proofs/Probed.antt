-- Home holds each block of which a Probe is pending.
use Rattle.std.proofs.Common.{◌≡◌, ℕ, ◌<◌, ◌==◌, false, List, [], ◌∷◌, slice_index, Option, if◌then◌else◌, Some, None, refl, sym, ◌∙◌, ap, subst, arith, eqb-true}
use Rattle.tl_types.specs.Permission.{rank, probe_perm}
use Rattle.tl_types.specs.declared.permission.Grow.{Grow}
use Rattle.tl_types.specs.declared.permission.ProbeCap.{ProbeCap}
use Rattle.tl_protocol.specs.Coherent.{byte_after}
use Rattle.tl_protocol.specs.Pending.{IsOrderly, IsServiceAt}
use Rattle.tl_protocol.specs.Protocol.{Block, MayOn, NoProbe, block_of, after, accepted_from, grants}
use Rattle.tl_protocol.specs.Runs.{MayNext, after_next, IsRunFrom, IsRun, end_from, end_of, at_reset}
use Rattle.tl_protocol.specs.declared.client.Client.{Client}
use Rattle.tl_protocol.specs.declared.event.Event.{Event}
use Rattle.tl_protocol.specs.declared.event.Event.TheVariants.{Load, Store, SendAcquire, SendRelease, AnswerProbe, TakeGrant, TakeReleaseAck, AcceptAcquire, SendProbe, TakeC, SendGrant, TakeGrantAck, SendGet, Serve, TakeData, Drop, SendPut, TakePutAck}
use Rattle.tl_protocol.specs.declared.home.Accepted.{Accepted}
use Rattle.tl_protocol.specs.declared.shape.Shape.{Shape}
use Rattle.tl_protocol.proofs.Blocks.{at_all, at_put}
use Rattle.tl_protocol.proofs.Coherent.{AllKept, step_kept, reset_kept}
use Rattle.tl_protocol.proofs.Pending.{orderly, service_at}
use Rattle.tl_protocol.proofs.Runs.{cond_at}
use Rattle.tl_registers.specs.Agree.{LeavesRegisters}
use Rattle.tl_registers.specs.Pending.{is_probed}
use Rattle.tl_registers.proofs.Blocks.{event-keeps}
use Rattle.tl_registers.proofs.Pending.{free-probe}

-- of a block that home lacks no Probe is pending
abbrev pub GoneIsUnprobed : Block → Type 0
GoneIsUnprobed s = s.home ≡ None → (x : ℕ) → is_probed (s.client x) ≡ false

-- ## One event of the block

-- an event that leaves the registers loses no copy of home and brings no Probe up
unprobed-left : (shape : Shape) (s : Block) (e : Event) → LeavesRegisters e → IsServiceAt shape s → ((x : ℕ) → IsOrderly (s.client x))
    → GoneIsUnprobed s → GoneIsUnprobed (after shape s e)
unprobed-left shape s e leaves service ordered was gone x =
    let keeps = event-keeps shape s e leaves service ordered in
    (keeps.probes x).brings_none (was (keeps.lacks gone) x)

-- a client that changes, unprobed as before
unprobed-put : (client : ℕ → Client) (c : ℕ) (k : Client) (x : ℕ) → (is_probed (client c) ≡ false → is_probed k ≡ false)
    → ((y : ℕ) → is_probed (client y) ≡ false) → is_probed (if x == c then k else client x) ≡ false
unprobed-put client c k x keeps was = at_put (λ m. is_probed m ≡ false) client c k x (λ e. keeps (was c)) (λ n. was x)

-- a block that home lacks stays unprobed where home accepts an Acquire
unprobed-accepted : (s : Block) (c : ℕ) (a : List Grow) → GoneIsUnprobed s → GoneIsUnprobed (accepted_from s c a)
unprobed-accepted s c [] was = was
unprobed-accepted s c (grow ∷ rest) was = λ gone x. unprobed-put s.client c _ x (λ h. h) (was gone)

-- and where home sends a Grant
unprobed-granted : (shape : Shape) (s : Block) (c : ℕ) (accepted : Option Accepted) → GoneIsUnprobed s
    → GoneIsUnprobed (grants shape s c accepted)
unprobed-granted shape s c None was = was
unprobed-granted shape s c (Some acquire) was = λ gone x. unprobed-put s.client c _ x (λ h. h) (was gone)

-- home holds the block that it probes: the client is recorded above None
probed-there : (shape : Shape) (s : Block) (c : ℕ) (cap : ProbeCap) → IsServiceAt shape s
    → rank (probe_perm cap) < rank (s.client c).recorded → s.home ≡ None → ⊥
probed-there shape s c cap service above gone =
    let there = service.at_home c (λ none. omega (arith, ap rank none, above)) in
    let bad : None ≡ Some there.0 = sym gone ∙ there.1 in
    cc

-- home gives up a block only while no Probe is pending
unprobed-given-up : (shape : Shape) (s : Block) → IsServiceAt shape s → NoProbe shape s → (x : ℕ) → is_probed (s.client x) ≡ false
unprobed-given-up shape s service none x =
    at_all (λ k. is_probed k ≡ false) shape.clients s.client service.outside refl (λ y l. free-probe (s.client y) (none y l)) x

-- of a block as every run keeps it, a permitted event leaves no Probe pending while home lacks it, if it was so before
unprobed-step : (shape : Shape) (s : Block) (e : Event) → MayOn shape s e → IsServiceAt shape s → ((x : ℕ) → IsOrderly (s.client x))
    → GoneIsUnprobed s → GoneIsUnprobed (after shape s e)
unprobed-step shape s (Load access) may service ordered was = unprobed-left shape s (Load access) tt service ordered was
unprobed-step shape s (Store access) may service ordered was = unprobed-left shape s (Store access) tt service ordered was
unprobed-step shape s (SendAcquire c block grow) may service ordered was =
    unprobed-left shape s (SendAcquire c block grow) tt service ordered was
unprobed-step shape s (SendRelease c block prune) may service ordered was =
    unprobed-left shape s (SendRelease c block prune) tt service ordered was
unprobed-step shape s (AnswerProbe c block) may service ordered was = unprobed-left shape s (AnswerProbe c block) tt service ordered was
unprobed-step shape s (TakeGrant c block) may service ordered was = unprobed-left shape s (TakeGrant c block) tt service ordered was
unprobed-step shape s (TakeReleaseAck c block) may service ordered was =
    unprobed-left shape s (TakeReleaseAck c block) tt service ordered was
unprobed-step shape s (AcceptAcquire c block) may service ordered was = unprobed-accepted s c (s.client c).a was
unprobed-step shape s (SendProbe c block cap) may service ordered was =
    λ gone x. absurd (probed-there shape s c cap service may.1.0 gone)
unprobed-step shape s (TakeC c block) may service ordered was = unprobed-left shape s (TakeC c block) tt service ordered was
unprobed-step shape s (SendGrant c block) may service ordered was = unprobed-granted shape s c s.accepted was
unprobed-step shape s (TakeGrantAck c block) may service ordered was =
    λ gone x. unprobed-put s.client c _ x (λ h. h) (was gone)
unprobed-step shape s (SendGet block) may service ordered was = was
unprobed-step shape s (Serve block) may service ordered was = unprobed-left shape s (Serve block) tt service ordered was
unprobed-step shape s (TakeData block) may service ordered was = unprobed-left shape s (TakeData block) tt service ordered was
unprobed-step shape s (Drop block) may service ordered was = λ gone x. unprobed-given-up shape s service may.1.no_probe x
unprobed-step shape s (SendPut block) may service ordered was = λ gone x. unprobed-given-up shape s service may.1.no_probe x
unprobed-step shape s (TakePutAck block) may service ordered was = was

-- ## Every run

-- so it is of every block after one permitted event
unprobed-next : (shape : Shape) (byte : ℕ → ℕ) (s : ℕ → Block) (e : Event) → MayNext shape s e → AllKept shape byte s
    → ((block : ℕ) → GoneIsUnprobed (s block)) → (block : ℕ) → GoneIsUnprobed (after_next shape s e block)
unprobed-next shape byte s e may kept was block =
    cond_at (λ (t : Block). GoneIsUnprobed t) (block == block_of shape e) (after shape (s block) e) (s block)
    (λ q. let same : block ≡ block_of shape e = eqb-true block (block_of shape e) q in
    let here : MayOn shape (s block) e = subst (λ (b : ℕ). MayOn shape (s b) e) (sym same) may.1 in
    unprobed-step shape (s block) e here (service_at shape (kept block).now (s block) (kept block).inv)
    (λ x. orderly (kept block).now ((s block).client x) ((kept block).inv.local x)) (was block))
    (λ q. was block)

-- and after a run of them
unprobed-run : (shape : Shape) (byte : ℕ → ℕ) (s : ℕ → Block) (es : List Event) → AllKept shape byte s
    → ((block : ℕ) → GoneIsUnprobed (s block)) → IsRunFrom shape s es → (block : ℕ) → GoneIsUnprobed (end_from shape s es block)
unprobed-run shape byte s [] kept was run = was
unprobed-run shape byte s (e ∷ es) kept was run =
    unprobed-run shape (λ a. byte_after e a (byte a)) (after_next shape s e) es (step_kept shape byte s e run.0 kept)
    (unprobed-next shape byte s e run.0 kept was) run.1

-- so it is in the end of every run
pub gone-is-unprobed : (shape : Shape) (image : List ℕ) (events : List Event) → IsRun shape image events → (block : ℕ)
    → GoneIsUnprobed (end_of shape image events block)
gone-is-unprobed shape image events run =
    unprobed-run shape (slice_index image) (at_reset shape image) events (reset_kept shape image) (λ block gone x. refl) run
