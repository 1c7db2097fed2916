-- Each answer to a Probe is within what that Probe leaves.
use Rattle.std.proofs.Common.{◌≡◌, ℕ, ◌==◌, ◌&&◌, Bool, true, false, cond, List, [], ◌∷◌, ◌++◌, slice_index, Option, Some, None, refl, sym, ap, ◌∙◌, subst, eqb-true, eq-eqb}
use Rattle.std.specs.List.{All}
use Rattle.std.proofs.lemmas.Bool.{ne_eqb}
use Rattle.std.proofs.lemmas.List.Elements.{All-nil, All-cons, All-append, All-drop}
use Rattle.tl_types.specs.Message.{probe_answer, surrender}
use Rattle.tl_types.specs.declared.permission.Grow.{Grow}
use Rattle.tl_types.specs.declared.permission.ProbeCap.{ProbeCap}
use Rattle.tl_types.specs.declared.message.Upward.{Upward}
use Rattle.tl_types.specs.declared.message.Upward.TheVariants.{ProbeAck, Release}
use Rattle.tl_types.specs.declared.message.Downward.{Downward}
use Rattle.tl_types.specs.declared.message.Downward.TheVariants.{Grant, ReleaseAck}
use Rattle.tl_protocol.specs.declared.client.Client.{Client}
use Rattle.tl_protocol.specs.declared.event.Event.{Event}
use Rattle.tl_protocol.specs.declared.event.Event.TheVariants.{Load, Store, SendAcquire, SendRelease, AnswerProbe, TakeGrant, TakeReleaseAck, AcceptAcquire, SendProbe, TakeC, SendGrant, TakeGrantAck, SendGet, Serve, TakeData, Drop, SendPut, TakePutAck}
use Rattle.tl_protocol.specs.declared.home.Accepted.{Accepted}
use Rattle.tl_protocol.specs.declared.home.Outward.{Outward}
use Rattle.tl_protocol.specs.declared.home.Outward.TheVariants.{Quiet, Get, Data, Put, PutAck}
use Rattle.tl_protocol.specs.declared.shape.Shape.{Shape}
use Rattle.tl_protocol.specs.Coherent.{byte_after}
use Rattle.tl_protocol.specs.Client.{NoProbePending, released, answered, took_grant, took_c_from, sent_probe}
use Rattle.tl_protocol.specs.Copy.{perm_of, dirty_bytes}
use Rattle.tl_protocol.specs.Probes.{probe_after, last_probe_from, IsLastProbe, IsWithin, AnswersItsProbe, EveryAnswerIsToItsProbe, LastProbeGrowsByOne}
use Rattle.tl_protocol.specs.Protocol.{Block, block_of, May, MayOn, after, accepted_from, grants, served, took_data}
use Rattle.tl_protocol.specs.Runs.{MayNext, after_next, IsRunFrom, end_from, at_reset}
use Rattle.tl_protocol.proofs.Invariant.{has_probe_ack, IsAtMostOne, Invariant}
use Rattle.tl_protocol.proofs.Blocks.{put, at_put}
use Rattle.tl_protocol.proofs.Clients.{rest_of_one}
use Rattle.tl_protocol.proofs.Coherent.{AllKept, step_kept, reset_kept}
use Rattle.tl_protocol.proofs.Pending.{every_answer_is_within}
use Rattle.tl_protocol.proofs.Runs.{cond_at}

-- ## One client

-- a Release joins C
released_within :
    (last : Option ProbeCap) (c : List Upward) (message : Upward) → IsWithin last message → All (λ m. IsWithin last m) c
    → All (λ m. IsWithin last m) (c ++ message ∷ [])
released_within last c message within all =
    All-append (λ m. IsWithin last m) c (message ∷ []) all
    (All-cons (λ m. IsWithin last m) message [] within (All-nil (λ m. IsWithin last m)))

-- a client answers its Probe, within what that leaves
answered_within :
    (last : Option ProbeCap) (k : Client) (b : List ProbeCap) → b ≡ k.b → IsAtMostOne b → AnswersItsProbe last k
    → AnswersItsProbe last (answered k b)
answered_within last k [] e one was = was
answered_within last k (cap ∷ rest) e one was =
    let same : last ≡ Some cap = subst (λ (b : List ProbeCap). IsLastProbe last b) (sym e) was.0 in (
      subst (λ (b : List ProbeCap). IsLastProbe last b) (sym (rest_of_one cap rest one)) tt,
      released_within last k.c (ProbeAck (probe_answer (perm_of k.held) cap (dirty_bytes k.held)))
          (cap, same, every_answer_is_within (perm_of k.held) cap (dirty_bytes k.held)) was.1,
    )

-- a Grant that is taken leaves B and C
took_grant_within :
    (last : Option ProbeCap) (k : Client) (d : List Downward) → AnswersItsProbe last k → AnswersItsProbe last (took_grant k d)
took_grant_within last k [] was = was
took_grant_within last k (ReleaseAck ∷ rest) was = was
took_grant_within last k (Grant cap bytes ∷ rest) was = was

-- the messages behind the first
rest_within :
    (last : Option ProbeCap) (first : Upward) (rest : List Upward) → All (λ m. IsWithin last m) (first ∷ rest)
    → All (λ m. IsWithin last m) rest
rest_within last first rest all = All-drop (λ m. IsWithin last m) 1 (first ∷ rest) all

-- home takes the first message of C
took_c_within :
    (last : Option ProbeCap) (k : Client) (c : List Upward) → c ≡ k.c → AnswersItsProbe last k
    → AnswersItsProbe last (took_c_from k c)
took_c_within last k [] e was = was
took_c_within last k (ProbeAck answer ∷ rest) e was =
    (was.0, rest_within last (ProbeAck answer) rest (subst (λ (c : List Upward). All (λ m. IsWithin last m) c) (sym e) was.1))
took_c_within last k (Release given ∷ rest) e was =
    (was.0, rest_within last (Release given) rest (subst (λ (c : List Upward). All (λ m. IsWithin last m) c) (sym e) was.1))

-- with no answer on C each message there is within whatever Probe
none_within : (last : Option ProbeCap) (c : List Upward) → has_probe_ack c ≡ false → All (λ m. IsWithin last m) c
none_within last [] none = All-nil (λ m. IsWithin last m)
none_within last (ProbeAck answer ∷ rest) none = cc
none_within last (Release given ∷ rest) none =
    All-cons (λ m. IsWithin last m) (Release given) rest tt (none_within last rest none)

-- a Probe joins an empty B, and is the last one
probe_within : (cap : ProbeCap) (b : List ProbeCap) → b ≡ [] → IsLastProbe (Some cap) (b ++ cap ∷ [])
probe_within cap [] e = refl
probe_within cap (first ∷ rest) e = cc

-- ## One block

-- a change of one client that keeps its answers within
put_within :
    (client : ℕ → Client) (c : ℕ) (k : Client) (x : ℕ) (last : Option ProbeCap)
    → (AnswersItsProbe last (client c) → AnswersItsProbe last k) → AnswersItsProbe last (client x)
    → AnswersItsProbe last (put client c k x)
put_within client c k x last keeps was =
    at_put (λ m. AnswersItsProbe last m) client c k x
    (λ e. keeps (subst (λ (y : ℕ). AnswersItsProbe last (client y)) e was)) (λ n. was)

-- home accepts an Acquire
accepted_within :
    (s : Block) (c x : ℕ) (last : Option ProbeCap) (a : List Grow) → AnswersItsProbe last (s.client x)
    → AnswersItsProbe last ((accepted_from s c a).client x)
accepted_within s c x last [] was = was
accepted_within s c x last (grow ∷ rest) was = put_within s.client c (record (s.client c) { a = rest }) x last (λ w. w) was

-- home sends a Grant
granted_within :
    (shape : Shape) (s : Block) (c x : ℕ) (last : Option ProbeCap) (accepted : Option Accepted) → AnswersItsProbe last (s.client x)
    → AnswersItsProbe last ((grants shape s c accepted).client x)
granted_within shape s c x last None was = was
granted_within shape s c x last (Some acquire) was = put_within s.client c _ x last (λ w. w) was

-- the memory answers
served_within :
    (s : Block) (x : ℕ) (last : Option ProbeCap) (outward : Outward) → AnswersItsProbe last (s.client x)
    → AnswersItsProbe last ((served s outward).client x)
served_within s x last Quiet was = was
served_within s x last Get was = was
served_within s x last (Data bytes) was = was
served_within s x last (Put bytes) was = was
served_within s x last PutAck was = was

-- home takes the data
took_data_within :
    (s : Block) (x : ℕ) (last : Option ProbeCap) (outward : Outward) → AnswersItsProbe last (s.client x)
    → AnswersItsProbe last ((took_data s outward).client x)
took_data_within s x last Quiet was = was
took_data_within s x last Get was = was
took_data_within s x last (Data bytes) was = was
took_data_within s x last (Put bytes) was = was
took_data_within s x last PutAck was = was

-- home sends a Probe
probe_step_within :
    (s : Block) (c block x : ℕ) (cap : ProbeCap) (last : Option ProbeCap) → NoProbePending (s.client c)
    → AnswersItsProbe last (s.client x)
    → AnswersItsProbe (probe_after (SendProbe c block cap) block x last) (put s.client c (sent_probe (s.client c) cap) x)
probe_step_within s c block x cap last none was =
    let k : Client = s.client c in
    let own : (block == block) ≡ true = eq-eqb block block refl in
    at_put (λ m. AnswersItsProbe (probe_after (SendProbe c block cap) block x last) m) s.client c (sent_probe k cap) x
    (λ e. subst (λ (p : Option ProbeCap). AnswersItsProbe p (sent_probe k cap))
    (sym (ap (λ (t : Bool). cond (t && (x == c)) (Some cap) last) own ∙ ap (λ (t : Bool). cond t (Some cap) last) (eq-eqb x c e)))
    (probe_within cap k.b none.0, none_within (Some cap) k.c none.1))
    (λ n. subst (λ (p : Option ProbeCap). AnswersItsProbe p (s.client x))
    (sym (ap (λ (t : Bool). cond (t && (x == c)) (Some cap) last) own ∙ ap (λ (t : Bool). cond t (Some cap) last) (ne_eqb x c n)))
    was)

-- each event of the block
step_within :
    (shape : Shape) (now : List ℕ) (s : Block) (e : Event) (x : ℕ) (last : Option ProbeCap) → MayOn shape s e → Invariant shape now s
    → AnswersItsProbe last (s.client x) → AnswersItsProbe (probe_after e (block_of shape e) x last) ((after shape s e).client x)
step_within shape now s (Load access) x last may holds was = was
step_within shape now s (Store access) x last may holds was = put_within s.client access.client _ x last (λ w. w) was
step_within shape now s (SendAcquire c block grow) x last may holds was = put_within s.client c _ x last (λ w. w) was
step_within shape now s (SendRelease c block prune) x last may holds was =
    put_within s.client c (released (s.client c) prune) x last
    (λ w. (w.0, released_within last (s.client c).c (Release (surrender prune (dirty_bytes (s.client c).held))) tt w.1)) was
step_within shape now s (AnswerProbe c block) x last may holds was =
    put_within s.client c (answered (s.client c) (s.client c).b) x last
    (λ w. answered_within last (s.client c) (s.client c).b refl (holds.local c).one_probe w) was
step_within shape now s (TakeGrant c block) x last may holds was =
    put_within s.client c (took_grant (s.client c) (s.client c).d) x last (λ w. took_grant_within last (s.client c) (s.client c).d w) was
step_within shape now s (TakeReleaseAck c block) x last may holds was = put_within s.client c _ x last (λ w. w) was
step_within shape now s (AcceptAcquire c block) x last may holds was = accepted_within s c x last (s.client c).a was
step_within shape now s (SendProbe c block cap) x last may holds was = probe_step_within s c block x cap last may.1.1 was
step_within shape now s (TakeC c block) x last may holds was =
    put_within s.client c (took_c_from (s.client c) (s.client c).c) x last (λ w. took_c_within last (s.client c) (s.client c).c refl w) was
step_within shape now s (SendGrant c block) x last may holds was = granted_within shape s c x last s.accepted was
step_within shape now s (TakeGrantAck c block) x last may holds was = put_within s.client c _ x last (λ w. w) was
step_within shape now s (SendGet block) x last may holds was = was
step_within shape now s (Serve block) x last may holds was = served_within s x last s.outward was
step_within shape now s (TakeData block) x last may holds was = took_data_within s x last s.outward was
step_within shape now s (Drop block) x last may holds was = was
step_within shape now s (SendPut block) x last may holds was = was
step_within shape now s (TakePutAck block) x last may holds was = was

-- ## All blocks

-- an event of another block is no Probe of this one
other_probe :
    (shape : Shape) (e : Event) (block x : ℕ) (last : Option ProbeCap) → (block == block_of shape e) ≡ false
    → probe_after e block x last ≡ last
other_probe shape (SendProbe c own cap) block x last n = ap (λ (t : Bool). cond (t && (x == c)) (Some cap) last) n
other_probe shape e block x last n = refl

-- the Probes under way are the given ones, on each block
abbrev AllWithin : (ℕ → ℕ → Option ProbeCap) → (ℕ → Block) → Type 0
AllWithin last s = (block x : ℕ) → AnswersItsProbe (last block x) ((s block).client x)

-- one more event
next_within :
    (shape : Shape) (byte : ℕ → ℕ) (s : ℕ → Block) (e : Event) (last : ℕ → ℕ → Option ProbeCap) → MayNext shape s e
    → AllKept shape byte s → AllWithin last s
    → AllWithin (λ block x. probe_after e block x (last block x)) (after_next shape s e)
next_within shape byte s e last may kept was block x =
    let own : ℕ = block_of shape e in
    cond_at (λ (t : Block). AnswersItsProbe (probe_after e block x (last block x)) (t.client x)) (block == own)
    (after shape (s block) e) (s block)
    (λ q. let same : block ≡ own = eqb-true block own q in
    let may_here : May shape (s block) e = subst (λ (b : ℕ). May shape (s b) e) (sym same) may in
    subst (λ (b : ℕ). AnswersItsProbe (probe_after e b x (last block x)) ((after shape (s block) e).client x)) (sym same)
    (step_within shape (kept block).now (s block) e x (last block x) may_here.1 (kept block).inv (was block x)))
    (λ q. subst (λ (p : Option ProbeCap). AnswersItsProbe p ((s block).client x)) (sym (other_probe shape e block x (last block x) q))
    (was block x))

-- any run
run_within :
    (shape : Shape) (byte : ℕ → ℕ) (s : ℕ → Block) (es : List Event) (last : ℕ → ℕ → Option ProbeCap) → AllKept shape byte s
    → AllWithin last s → IsRunFrom shape s es
    → AllWithin (λ block x. last_probe_from (last block x) es block x) (end_from shape s es)
run_within shape byte s [] last kept was run = was
run_within shape byte s (e ∷ es) last kept was run =
    run_within shape (λ a. byte_after e a (byte a)) (after_next shape s e) es (λ block x. probe_after e block x (last block x))
    (step_kept shape byte s e run.0 kept) (next_within shape byte s e last run.0 kept was) run.1

-- each answer is to its Probe, in the end of every run
pub every_answer_is_to_its_probe : EveryAnswerIsToItsProbe
every_answer_is_to_its_probe shape image events run block x =
    run_within shape (slice_index image) (at_reset shape image) events (λ b y. None) (reset_kept shape image)
    (λ b y. (tt, All-nil (λ m. IsWithin None m))) run block x

-- from any Probe on
last_probe_from-append :
    (before : Option ProbeCap) (events : List Event) (e : Event) (block x : ℕ)
    → last_probe_from before (events ++ e ∷ []) block x ≡ probe_after e block x (last_probe_from before events block x)
last_probe_from-append before [] e block x = refl
last_probe_from-append before (first ∷ events) e block x =
    last_probe_from-append (probe_after first block x before) events e block x

-- one more event may be a Probe
pub last_probe_grows_by_one : LastProbeGrowsByOne
last_probe_grows_by_one events e block x = last_probe_from-append None events e block x
