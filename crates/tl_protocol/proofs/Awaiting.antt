-- What a client waits for is under way.
use Rattle.std.proofs.Common.{◌≡◌, ◌≢◌, ◌⊎◌, ℕ, ◌<◌, ◌==◌, true, List, [], ◌∷◌, ◌++◌, slice_index, Option, Some, None, inl, inr, refl, sym, ◌∙◌, subst, arith, eqb-true}
use Rattle.std.specs.List.{list_any}
use Rattle.tl_types.specs.declared.permission.Perm.{Perm}
use Rattle.tl_types.specs.declared.permission.Grow.{Grow}
use Rattle.tl_types.specs.declared.permission.ProbeCap.{ProbeCap}
use Rattle.tl_types.specs.declared.permission.GrantCap.{GrantCap}
use Rattle.tl_types.specs.declared.wait.Awaited.{Awaited}
use Rattle.tl_types.specs.declared.wait.Awaited.TheVariants.{ForGrant, ForReleaseAck}
use Rattle.tl_types.specs.declared.message.Upward.{Upward}
use Rattle.tl_types.specs.declared.message.Upward.TheVariants.{ProbeAck, Release}
use Rattle.tl_types.specs.declared.message.Downward.{Downward}
use Rattle.tl_types.specs.declared.message.Downward.TheVariants.{Grant, ReleaseAck}
use Rattle.tl_protocol.specs.declared.copy.CachedCopy.{CachedCopy}
use Rattle.tl_protocol.specs.declared.client.Client.{Client}
use Rattle.tl_protocol.specs.declared.event.Event.{Event}
use Rattle.tl_protocol.specs.declared.event.Event.TheVariants.{Load, Store, SendAcquire, SendRelease, AnswerProbe, TakeGrant, TakeReleaseAck, AcceptAcquire, SendProbe, TakeC, SendGrant, TakeGrantAck, SendGet, Serve, TakeData, Drop, SendPut, TakePutAck}
use Rattle.tl_protocol.specs.declared.home.Accepted.{Accepted}
use Rattle.tl_protocol.specs.declared.home.Outward.{Outward}
use Rattle.tl_protocol.specs.declared.home.Outward.TheVariants.{Quiet, Get, Data, Put, PutAck}
use Rattle.tl_protocol.specs.declared.shape.Shape.{Shape}
use Rattle.tl_protocol.specs.Awaiting.{is_release_given, is_acknowledged, EveryWaitIsHeard}
use Rattle.tl_protocol.specs.Client.{NoGrantPending, sent_acquire, released, answered, took_grant, took_release_ack, took_grant_ack, took_c_from}
use Rattle.tl_protocol.specs.Coherent.{byte_after}
use Rattle.tl_protocol.specs.Protocol.{Block, block_of, May, MayOn, after, accepted_from, grants, served, took_data}
use Rattle.tl_protocol.specs.Runs.{MayNext, after_next, IsRunFrom, end_from, at_reset, end_of}
use Rattle.tl_protocol.proofs.Invariant.{has_grant, IsServed, Heard, Talk, Invariant}
use Rattle.tl_protocol.proofs.Blocks.{put, at_put, served_one}
use Rattle.tl_protocol.proofs.Coherent.{AllKept, step_kept, reset_kept, end_kept}
use Rattle.tl_protocol.proofs.Pending.{service_at}
use Rattle.tl_protocol.proofs.Runs.{cond_at}

-- ## A Grant

-- home serves a client's Acquire, and has sent no Grant of it yet
abbrev pub IsBeingServed : Option Accepted → Client → ℕ → Type 0
IsBeingServed accepted k x = (acquire : Accepted) × (accepted ≡ Some acquire) × (acquire.client ≡ x) × NoGrantPending k

-- an Acquire that is under way
abbrev pub IsUnderWay : Option Accepted → Client → ℕ → Type 0
IsUnderWay accepted k x = (k.a ≢ []) ⊎ IsBeingServed accepted k x ⊎ (has_grant k.d ≡ true)

-- if a client waits for a Grant, its Acquire is under way
abbrev pub IsAsked : Option Accepted → Client → ℕ → Type 0
IsAsked accepted k x = k.wait ≡ ForGrant → IsUnderWay accepted k x

-- a change of one client, of which what it asks stays under way
put_asked :
    (accepted : Option Accepted) (client : ℕ → Client) (c : ℕ) (k : Client) (x : ℕ)
    → (IsAsked accepted (client c) c → IsAsked accepted k c) → IsAsked accepted (client x) x → IsAsked accepted (put client c k x) x
put_asked accepted client c k x keeps was =
    at_put (λ m. IsAsked accepted m x) client c k x
    (λ e. subst (λ (y : ℕ). IsAsked accepted k y) (sym e) (keeps (subst (λ (y : ℕ). IsAsked accepted (client y) y) e was)))
    (λ n. was)

-- it is so still where each of the three ways is
asked_still :
    (accepted later : Option Accepted) (k after_it : Client) (x : ℕ) → (k.a ≢ [] → after_it.a ≢ [])
    → (IsBeingServed accepted k x → IsBeingServed later after_it x) → (has_grant k.d ≡ true → has_grant after_it.d ≡ true)
    → IsUnderWay accepted k x → IsUnderWay later after_it x
asked_still accepted later k after_it x asks being granted (inl is) = inl (asks is)
asked_still accepted later k after_it x asks being granted (inr (inl is)) = inr (inl (being is))
asked_still accepted later k after_it x asks being granted (inr (inr is)) = inr (inr (granted is))

-- a list with one more message is not empty
one_more : {X : Type 0} (xs : List X) (x : X) → xs ++ x ∷ [] ≢ []
one_more [] x e = cc
one_more (first ∷ xs) x e = cc

-- a client answers a Probe
answered_asked :
    (accepted : Option Accepted) (k : Client) (b : List ProbeCap) (x : ℕ) → IsAsked accepted k x → IsAsked accepted (answered k b) x
answered_asked accepted k [] x was = was
answered_asked accepted k (cap ∷ rest) x was = was

-- a client takes its Grant, and waits no more
took_grant_asked :
    (accepted : Option Accepted) (k : Client) (d : List Downward) (x : ℕ) → IsAsked accepted k x → IsAsked accepted (took_grant k d) x
took_grant_asked accepted k [] x was = was
took_grant_asked accepted k (ReleaseAck ∷ rest) x was = was
took_grant_asked accepted k (Grant cap bytes ∷ rest) x was = λ waits. cc

-- a ReleaseAck on D is no Grant
acked_grants : (d : List Downward) → has_grant (d ++ ReleaseAck ∷ []) ≡ has_grant d
acked_grants [] = refl
acked_grants (Grant cap bytes ∷ d) = refl
acked_grants (ReleaseAck ∷ d) = acked_grants d

-- home takes a message of C
took_c_asked :
    (accepted : Option Accepted) (k : Client) (c : List Upward) (x : ℕ) → IsAsked accepted k x → IsAsked accepted (took_c_from k c) x
took_c_asked accepted k [] x was = was
took_c_asked accepted k (ProbeAck answer ∷ rest) x was = was
took_c_asked accepted k (Release given ∷ rest) x was = λ waits.
    asked_still accepted accepted k (took_c_from k (Release given ∷ rest)) x (λ asks. asks)
    (λ being. (being.0, being.1, being.2, (acked_grants k.d ∙ being.3.0, being.3.1)))
    (λ granted. acked_grants k.d ∙ granted) (was waits)

-- a Grant joins D
one_granted : (d : List Downward) (cap : GrantCap) (bytes : Option (List ℕ)) → has_grant (d ++ Grant cap bytes ∷ []) ≡ true
one_granted [] cap bytes = refl
one_granted (Grant own carried ∷ d) cap bytes = refl
one_granted (ReleaseAck ∷ d) cap bytes = one_granted d cap bytes

-- home sends a Grant
granted_asked :
    (shape : Shape) (s : Block) (c x : ℕ) (accepted : Option Accepted) → IsAsked s.accepted (s.client x) x
    → IsAsked (grants shape s c accepted).accepted ((grants shape s c accepted).client x) x
granted_asked shape s c x None was = was
granted_asked shape s c x (Some acquire) was =
    put_asked s.accepted s.client c _ x (λ w waits. inr (inr (one_granted (s.client c).d _ _))) was

-- home accepts an Acquire, which it serves then
accepted_asked :
    (shape : Shape) (now : List ℕ) (s : Block) (c x : ℕ) (a : List Grow) → s.accepted ≡ None → Invariant shape now s
    → IsAsked s.accepted (s.client x) x → IsAsked (accepted_from s c a).accepted ((accepted_from s c a).client x) x
accepted_asked shape now s c x [] none holds was = was
accepted_asked shape now s c x (grow ∷ rest) none holds was =
    let acquire : Accepted = record { client = c; grow = grow } in
    let free : NoGrantPending (s.client c) =
    (service_at shape now s holds).no_grant none c in
    at_put (λ m. IsAsked (Some acquire) m x) s.client c (record (s.client c) { a = rest }) x
    (λ e waits. inr (inl (acquire, refl, sym e, free)))
    (λ n waits. asked_still s.accepted (Some acquire) (s.client x) (s.client x) x (λ asks. asks)
    (λ being. let never = being.1 in cc) (λ granted. granted) (was waits))

-- home takes the GrantAck of the Acquire that it served
acked_asked :
    (shape : Shape) (now : List ℕ) (s : Block) (c x : ℕ) → 0 < (s.client c).e → Invariant shape now s
    → IsAsked s.accepted (s.client x) x → IsAsked None (put s.client c (took_grant_ack (s.client c)) x) x
acked_asked shape now s c x has holds was =
    let own : IsServed s.accepted c = holds.service.served c (inr has) in
    at_put (λ m. IsAsked None m x) s.client c (took_grant_ack (s.client c)) x
    (λ e waits.
    let here : IsAsked s.accepted (s.client c) c = subst (λ (y : ℕ). IsAsked s.accepted (s.client y) y) e was in
    asked_still s.accepted None (s.client c) (took_grant_ack (s.client c)) x (λ asks. asks)
    (λ being. let none_left : (s.client c).e ≡ 0 = being.3.1 in absurd (omega arith)) (λ granted. granted)
    (subst (λ (y : ℕ). IsUnderWay s.accepted (s.client c) y) (sym e) (here waits)))
    (λ n waits. asked_still s.accepted None (s.client x) (s.client x) x (λ asks. asks)
    (λ being. let its : IsServed s.accepted x = subst (λ (o : Option Accepted). IsServed o x) (sym being.1) being.2 in
    absurd (n (served_one s.accepted x c its own)))
    (λ granted. granted) (was waits))

-- the memory answers
served_asked :
    (s : Block) (x : ℕ) (outward : Outward) → IsAsked s.accepted (s.client x) x
    → IsAsked (served s outward).accepted ((served s outward).client x) x
served_asked s x Quiet was = was
served_asked s x Get was = was
served_asked s x (Data bytes) was = was
served_asked s x (Put bytes) was = was
served_asked s x PutAck was = was

-- home takes the data
took_data_asked :
    (s : Block) (x : ℕ) (outward : Outward) → IsAsked s.accepted (s.client x) x
    → IsAsked (took_data s outward).accepted ((took_data s outward).client x) x
took_data_asked s x Quiet was = was
took_data_asked s x Get was = was
took_data_asked s x (Data bytes) was = was
took_data_asked s x (Put bytes) was = was
took_data_asked s x PutAck was = was

-- each event of the block
step_asked :
    (shape : Shape) (now : List ℕ) (s : Block) (e : Event) (x : ℕ) → MayOn shape s e → Invariant shape now s
    → IsAsked s.accepted (s.client x) x → IsAsked (after shape s e).accepted ((after shape s e).client x) x
step_asked shape now s (Load access) x may holds was = was
step_asked shape now s (Store access) x may holds was = put_asked s.accepted s.client access.client _ x (λ w. w) was
step_asked shape now s (SendAcquire c block grow) x may holds was =
    put_asked s.accepted s.client c (sent_acquire (s.client c) grow) x (λ w waits. inl (one_more (s.client c).a grow)) was
step_asked shape now s (SendRelease c block prune) x may holds was =
    put_asked s.accepted s.client c (released (s.client c) prune) x (λ w waits. cc) was
step_asked shape now s (AnswerProbe c block) x may holds was =
    put_asked s.accepted s.client c (answered (s.client c) (s.client c).b) x
    (λ w. answered_asked s.accepted (s.client c) (s.client c).b c w) was
step_asked shape now s (TakeGrant c block) x may holds was =
    put_asked s.accepted s.client c (took_grant (s.client c) (s.client c).d) x
    (λ w. took_grant_asked s.accepted (s.client c) (s.client c).d c w) was
step_asked shape now s (TakeReleaseAck c block) x may holds was =
    put_asked s.accepted s.client c (took_release_ack (s.client c)) x (λ w waits. cc) was
step_asked shape now s (AcceptAcquire c block) x may holds was = accepted_asked shape now s c x (s.client c).a may.2 holds was
step_asked shape now s (SendProbe c block cap) x may holds was = put_asked s.accepted s.client c _ x (λ w. w) was
step_asked shape now s (TakeC c block) x may holds was =
    put_asked s.accepted s.client c (took_c_from (s.client c) (s.client c).c) x
    (λ w. took_c_asked s.accepted (s.client c) (s.client c).c c w) was
step_asked shape now s (SendGrant c block) x may holds was = granted_asked shape s c x s.accepted was
step_asked shape now s (TakeGrantAck c block) x may holds was = acked_asked shape now s c x may.1 holds was
step_asked shape now s (SendGet block) x may holds was = was
step_asked shape now s (Serve block) x may holds was = served_asked s x s.outward was
step_asked shape now s (TakeData block) x may holds was = took_data_asked s x s.outward was
step_asked shape now s (Drop block) x may holds was = was
step_asked shape now s (SendPut block) x may holds was = was
step_asked shape now s (TakePutAck block) x may holds was = was

-- what each client asks of each block is under way
abbrev pub AllAsked : (ℕ → Block) → Type 0
AllAsked s = (block x : ℕ) → IsAsked (s block).accepted ((s block).client x) x

-- one more event
next_asked :
    (shape : Shape) (byte : ℕ → ℕ) (s : ℕ → Block) (e : Event) → MayNext shape s e → AllKept shape byte s → AllAsked s
    → AllAsked (after_next shape s e)
next_asked shape byte s e may kept was block x =
    let own : ℕ = block_of shape e in
    cond_at (λ (t : Block). IsAsked t.accepted (t.client x) x) (block == own) (after shape (s block) e) (s block)
    (λ q. let same : block ≡ own = eqb-true block own q in
    let here : May shape (s block) e = subst (λ (b : ℕ). May shape (s b) e) (sym same) may in
    step_asked shape (kept block).now (s block) e x here.1 (kept block).inv (was block x))
    (λ q. was block x)

-- any run
run_asked :
    (shape : Shape) (byte : ℕ → ℕ) (s : ℕ → Block) (es : List Event) → AllKept shape byte s → AllAsked s → IsRunFrom shape s es
    → AllAsked (end_from shape s es)
run_asked shape byte s [] kept was run = was
run_asked shape byte s (e ∷ es) kept was run =
    run_asked shape (λ a. byte_after e a (byte a)) (after_next shape s e) es (step_kept shape byte s e run.0 kept)
    (next_asked shape byte s e run.0 kept was) run.1

-- what a client asks is under way in the end of every run
pub end_asked :
    (shape : Shape) (image : List ℕ) (events : List Event) → IsRunFrom shape (at_reset shape image) events
    → AllAsked (end_of shape image events)
end_asked shape image events run =
    run_asked shape (slice_index image) (at_reset shape image) events (reset_kept shape image) (λ b x waits. cc) run

-- ## A ReleaseAck

-- with nothing on D a Release is on C
heard_released :
    (now : List ℕ) (held : CachedCopy) (wait : Awaited) (recorded : Perm) (b : List ProbeCap) (c : List Upward)
    → wait ≡ ForReleaseAck → Heard now held wait recorded b c → list_any is_release_given c ≡ true
heard_released now held wait recorded b [] waits talk = absurd (talk.0 waits)
heard_released now held wait recorded b (ProbeAck answer ∷ []) waits talk = absurd (talk.0 waits)
heard_released now held wait recorded b (Release given ∷ []) waits talk = refl
heard_released now held wait recorded b (ProbeAck answer ∷ Release given ∷ []) waits talk = refl
heard_released now held wait recorded b (message ∷ rest) waits talk = absurd talk

-- or a ReleaseAck is first on D
talk_released :
    (now : List ℕ) (held : CachedCopy) (wait : Awaited) (recorded : Perm) (b : List ProbeCap) (c : List Upward) (d : List Downward)
    → wait ≡ ForReleaseAck → Talk now held wait recorded b c d
    → (list_any is_release_given c ≡ true) ⊎ (is_acknowledged d ≡ true)
talk_released now held wait recorded b c [] waits talk = inl (heard_released now held wait recorded b c waits talk)
talk_released now held wait recorded b c (Grant cap bytes ∷ []) waits talk = let grant = talk.1 in cc
talk_released now held wait recorded b c (ReleaseAck ∷ []) waits talk = inr refl
talk_released now held wait recorded b c (first ∷ second ∷ rest) waits talk = absurd talk

-- what each client waits for is under way in the end of every run
pub every_wait_is_heard : EveryWaitIsHeard
every_wait_is_heard shape image events run block x =
    let kept = end_kept shape image events run block in
    let k : Client = (end_of shape image events block).client x in
    record {
      grant = end_asked shape image events run block x;
      ack = λ waits. talk_released kept.now k.held k.wait k.recorded k.b k.c k.d waits ((kept.inv).local x).talk;
    }
