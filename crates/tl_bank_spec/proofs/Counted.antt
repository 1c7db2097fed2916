-- Which events leave a client's number of copies.
use Rattle.std.proofs.Common.{◌≡◌, ℕ, ◌==◌, Bool, true, false, cond, if◌then◌else◌, not, List, [], ◌∷◌, Option, Some, None, refl, sym, ap, ◌∙◌, subst, eqb-true}
use Rattle.tl_types.proofs.Counts.{count_below-same}
use Rattle.tl_types.specs.Count.{count_below}
use Rattle.tl_map.specs.Numbers.{Numbers}
use Rattle.tl_types.specs.declared.permission.Grow.{Grow}
use Rattle.tl_types.specs.declared.permission.Perm.{Perm}
use Rattle.tl_types.specs.declared.permission.Perm.TheVariants.{Tip}
use Rattle.tl_types.specs.declared.message.Upward.{Upward}
use Rattle.tl_types.specs.declared.message.Upward.TheVariants.{ProbeAck, Release}
use Rattle.tl_protocol.specs.Client.{took_c_from}
use Rattle.tl_protocol.specs.Copy.{perm_of}
use Rattle.tl_protocol.specs.Ledger.{has_copy}
use Rattle.tl_protocol.specs.Protocol.{Block, MayOn, accepted_from, after, block_of, grants, is_none, served, took_data}
use Rattle.tl_protocol.specs.declared.client.Client.{Client}
use Rattle.tl_protocol.specs.declared.event.Event.{Event}
use Rattle.tl_protocol.specs.declared.event.Event.TheVariants.{Load, Store, SendAcquire, SendRelease, AnswerProbe, TakeGrant, TakeReleaseAck, AcceptAcquire, SendProbe, TakeC, SendGrant, TakeGrantAck, SendGet, Serve, TakeData, Drop, SendPut, TakePutAck}
use Rattle.tl_protocol.specs.declared.home.Accepted.{Accepted}
use Rattle.tl_protocol.specs.declared.home.Outward.{Outward}
use Rattle.tl_protocol.specs.declared.home.Outward.TheVariants.{Quiet, Get, Data, Put, PutAck}
use Rattle.tl_protocol.specs.declared.shape.Shape.{Shape}
use Rattle.tl_protocol.proofs.Blocks.{at_put}
use Rattle.tl_protocol_lanes.specs.Lists.{IsOther, client_of}
use Rattle.tl_protocol_lanes.proofs.Events.{every_event_is_of_one_client}
use Rattle.tl_bank_spec.specs.Counted.{EveryEventLeavesOtherCounts, client_counted}
use Rattle.tl_bank_spec.proofs.Logged.{block-next}
use Rattle.tl_bank_spec.specs.View.{View, end_at, client_at, shape_of}
use Rattle.tl_bank_spec.specs.Steps.{Extends}
use Rattle.tl_bank_spec.specs.Tables.{copies_at}

-- ## One client

-- a client has a copy just where another has
abbrev SameHas : Client → Client → Type 0
SameHas k old = has_copy k ≡ has_copy old

-- a client that changed, and has a copy where it had one, leaves all clients so
put-same : (client : ℕ → Client) (c : ℕ) (k : Client) (x : ℕ) → SameHas k (client c)
    → has_copy (if x == c then k else client x) ≡ has_copy (client x)
put-same client c k x same =
    at_put (λ y. has_copy y ≡ has_copy (client x)) client c k x
    (λ e. same ∙ ap (λ (y : ℕ). has_copy (client y)) (sym e)) (λ n. refl)

-- a client with Tip has a copy
tip-has : (k : Client) → perm_of k.held ≡ Tip → has_copy k ≡ true
tip-has k tip = ap (λ (p : Perm). not (is_none p)) tip

-- the accepted Acquire's client
accepted-same : (s : Block) (c : ℕ) (a : List Grow) (x : ℕ) → SameHas ((accepted_from s c a).client x) (s.client x)
accepted-same s c [] x = refl
accepted-same s c (grow ∷ rest) x = put-same s.client c _ x refl

-- the client of a message that home takes
took-same : (k : Client) (c : List Upward) → SameHas (took_c_from k c) k
took-same k [] = refl
took-same k (ProbeAck answer ∷ rest) = refl
took-same k (Release given ∷ rest) = refl

-- the client of a Grant that is sent
grants-same : (shape : Shape) (s : Block) (c : ℕ) (accepted : Option Accepted) (x : ℕ)
    → SameHas ((grants shape s c accepted).client x) (s.client x)
grants-same shape s c None x = refl
grants-same shape s c (Some acquire) x = put-same s.client c _ x refl

-- the memory's answer
served-same : (s : Block) (out : Outward) (x : ℕ) → SameHas ((served s out).client x) (s.client x)
served-same s Quiet x = refl
served-same s Get x = refl
served-same s (Data bytes) x = refl
served-same s (Put bytes) x = refl
served-same s PutAck x = refl

-- the bytes that home takes
data-same : (s : Block) (out : Outward) (x : ℕ) → SameHas ((took_data s out).client x) (s.client x)
data-same s Quiet x = refl
data-same s Get x = refl
data-same s (Data bytes) x = refl
data-same s (Put bytes) x = refl
data-same s PutAck x = refl

-- ## One event

-- a permitted event leaves who has a copy, but for the client that it counts
event-same : (shape : Shape) (s : Block) (e : Event) (x : ℕ) → MayOn shape s e → IsOther (client_counted e) x
    → SameHas ((after shape s e).client x) (s.client x)
event-same shape s (Load a) x may other = refl
event-same shape s (Store a) x may other = put-same s.client a.client _ x (sym (tip-has (s.client a.client) may.1.1))
event-same shape s (SendAcquire c block grow) x may other = put-same s.client c _ x refl
event-same shape s (SendRelease c block prune) x may other =
    ap has_copy (every_event_is_of_one_client shape s (SendRelease c block prune) x other)
event-same shape s (AnswerProbe c block) x may other =
    ap has_copy (every_event_is_of_one_client shape s (AnswerProbe c block) x other)
event-same shape s (TakeGrant c block) x may other =
    ap has_copy (every_event_is_of_one_client shape s (TakeGrant c block) x other)
event-same shape s (TakeReleaseAck c block) x may other = put-same s.client c _ x refl
event-same shape s (AcceptAcquire c block) x may other = accepted-same s c (s.client c).a x
event-same shape s (SendProbe c block cap) x may other = put-same s.client c _ x refl
event-same shape s (TakeC c block) x may other = put-same s.client c _ x (took-same (s.client c) (s.client c).c)
event-same shape s (SendGrant c block) x may other = grants-same shape s c s.accepted x
event-same shape s (TakeGrantAck c block) x may other = put-same s.client c _ x refl
event-same shape s (SendGet block) x may other = refl
event-same shape s (Serve block) x may other = served-same s s.outward x
event-same shape s (TakeData block) x may other = data-same s s.outward x
event-same shape s (Drop block) x may other = refl
event-same shape s (SendPut block) x may other = refl
event-same shape s (TakePutAck block) x may other = refl

-- ## A bank

-- whether or not the block is the event's
block-same : (shape : Shape) (s own : Block) (e : Event) (x : ℕ) (t : Bool) → (t ≡ true → s ≡ own)
    → SameHas ((after shape own e).client x) (own.client x) → SameHas ((cond t (after shape s e) s).client x) (s.client x)
block-same shape s own e x true is same =
    subst (λ (r : Block). SameHas ((after shape r e).client x) (r.client x)) (sym (is refl)) same
block-same shape s own e x false is same = refl

-- where of each block one client has a copy just where it had one, its number is the same
same-count : (old new : View) (x : ℕ) → new.geometry ≡ old.geometry
    → ((b : ℕ) → SameHas (client_at new x b) (client_at old x b)) → copies_at new x ≡ copies_at old x
same-count old new x geometry same =
    ap (λ (g : Numbers). count_below (λ b. has_copy (client_at new x b)) g.memory_blocks) geometry
    ∙ (count_below-same (λ b. has_copy (client_at new x b)) (λ b. has_copy (client_at old x b)) old.geometry.memory_blocks
    (λ b l. same b))

-- any event leaves the number of every client but its own
pub others-keep : (old new : View) (e : Event) (x : ℕ) → Extends old new e → IsOther (client_of e) x
    → copies_at new x ≡ copies_at old x
others-keep old new e x extends other =
    let shape : Shape = shape_of old.geometry in
    let own : ℕ = block_of shape e in
    same-count old new x extends.geometry
    (λ b. ap (λ (s : Block). has_copy (s.client x)) (block-next old new e b extends)
    ∙ block-same shape (end_at old b) (end_at old own) e x (b == own) (λ t. ap (end_at old) (eqb-true b own t))
    (ap has_copy (every_event_is_of_one_client shape (end_at old own) e x other)))

-- a permitted event leaves the number of every client but the one that it counts
pub every_event_leaves_other_counts : EveryEventLeavesOtherCounts
every_event_leaves_other_counts old new e x may extends other =
    let shape : Shape = shape_of old.geometry in
    let own : ℕ = block_of shape e in
    same-count old new x extends.geometry
    (λ b. ap (λ (s : Block). has_copy (s.client x)) (block-next old new e b extends)
    ∙ block-same shape (end_at old b) (end_at old own) e x (b == own) (λ t. ap (end_at old) (eqb-true b own t))
    (event-same shape (end_at old own) e x may.1 other))
