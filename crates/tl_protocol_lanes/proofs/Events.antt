-- Each event moves the lists of its block by what it takes and sends, and leaves the rest.
use Rattle.std.proofs.Common.{◌≡◌, ◌≢◌, ℕ, ◌%◌, Bool, List, [], ◌∷◌, drop, map, replicate, Option, Some, None, refl, sym, ap, ◌∙◌, subst, cond}
use Rattle.std.proofs.lemmas.Bool.{ne_eqb}
use Rattle.std.proofs.lemmas.List.{map-append, drop-replicate}
use Rattle.std.proofs.lemmas.Grind.{replicate_next}
use Rattle.tl_types.specs.Message.{probe_answer, surrender}
use Rattle.tl_types.specs.declared.channel.Channel.{Channel}
use Rattle.tl_types.specs.declared.channel.Channel.TheVariants.{A, B, C, D, E}
use Rattle.tl_types.specs.declared.permission.Grow.{Grow}
use Rattle.tl_types.specs.declared.permission.Prune.{Prune}
use Rattle.tl_types.specs.declared.permission.ProbeCap.{ProbeCap}
use Rattle.tl_types.specs.declared.permission.GrantCap.{GrantCap}
use Rattle.tl_types.specs.declared.message.Body.{Body}
use Rattle.tl_types.specs.declared.message.Body.TheVariants.{AcquireBlock, ProbeBlock, Upward as b_Upward, Downward as b_Downward, GrantAck}
use Rattle.tl_types.specs.declared.message.ProbeAnswer.{ProbeAnswer}
use Rattle.tl_types.specs.declared.message.Surrender.{Surrender}
use Rattle.tl_types.specs.declared.message.Upward.{Upward}
use Rattle.tl_types.specs.declared.message.Upward.TheVariants.{ProbeAck, Release}
use Rattle.tl_types.specs.declared.message.Downward.{Downward}
use Rattle.tl_types.specs.declared.message.Downward.TheVariants.{Grant, ReleaseAck}
use Rattle.tl_protocol.specs.declared.client.Client.{Client}
use Rattle.tl_protocol.specs.declared.event.Event.{Event}
use Rattle.tl_protocol.specs.declared.event.Event.TheVariants.{Load, Store, SendAcquire, SendRelease, AnswerProbe, TakeGrant, TakeReleaseAck, AcceptAcquire, SendProbe, TakeC, SendGrant, TakeGrantAck, SendGet, Serve, TakeData, Drop, SendPut, TakePutAck}
use Rattle.tl_protocol.specs.declared.home.Accepted.{Accepted}
use Rattle.tl_protocol.specs.declared.home.Outward.{Outward}
use Rattle.tl_protocol.specs.declared.home.Outward.TheVariants.{Quiet, Get, Data, Put, PutAck}
use Rattle.tl_protocol.specs.declared.shape.Shape.{Shape}
use Rattle.tl_protocol.specs.Client.{stored, sent_acquire, released, answered, took_grant, took_release_ack, sent_probe, sent_grant, took_c_from, took_grant_ack, grant_bytes}
use Rattle.tl_protocol.specs.Copy.{perm_of, dirty_bytes}
use Rattle.tl_protocol.specs.Queue.{HasFirst}
use Rattle.tl_protocol.specs.Protocol.{Block, MayOn, after, accepted_from, grants, granted, served, took_data, home_bytes}
use Rattle.tl_protocol.proofs.Blocks.{put}
use Rattle.tl_protocol_lanes.specs.Lanes.{Post, LinkChannel, post_of, take_of, answer_post, ack_post, grant_post}
use Rattle.tl_protocol_lanes.specs.Lists.{list_in, shed, added, EveryEventMovesItsLists, EveryEventIsOfOneClient, SameHome, EverySuchEventLeavesHome}
use Rattle.tl_protocol_lanes.proofs.Lists.{shed_here, added_here, shed_is, added_is, PostIsOf, follow_put}

-- ## The lists of the event's client

-- only what is taken moves them
take_moves :
    (c : ℕ) (channel : Channel) (old new : Client) → ((l : Channel) → list_in new l ≡ shed_here channel l (list_in old l))
    → (l : Channel) → list_in new l ≡ shed (Some (record { client = c; channel = channel })) c l (list_in old l)
take_moves c channel old new moves l = moves l ∙ sym (shed_is c channel l (list_in old l))

-- only what is sent moves them
post_moves :
    (c : ℕ) (channel : Channel) (body : Body) (old new : Client)
    → ((l : Channel) → list_in new l ≡ added_here channel body l (list_in old l))
    → (l : Channel) → list_in new l ≡ added (Some (record { client = c; channel = channel; body = body })) c l (list_in old l)
post_moves c channel body old new moves l = moves l ∙ sym (added_is c channel body l (list_in old l))

-- both move them
both_move :
    (c : ℕ) (from to : Channel) (body : Body) (old new : Client)
    → ((l : Channel) → list_in new l ≡ added_here to body l (shed_here from l (list_in old l)))
    → (l : Channel)
    → list_in new l
    ≡ added (Some (record { client = c; channel = to; body = body })) c l
    (shed (Some (record { client = c; channel = from })) c l (list_in old l))
both_move c from to body old new moves l =
    moves l
    ∙ (ap (added_here to body l) (sym (shed_is c from l (list_in old l)))
    ∙ sym (added_is c to body l (shed (Some (record { client = c; channel = from })) c l (list_in old l))))

-- a store moves none
stored_lists :
    (k new : Client) → new.a ≡ k.a → new.b ≡ k.b → new.c ≡ k.c → new.d ≡ k.d → new.e ≡ k.e → (l : Channel)
    → list_in new l ≡ list_in k l
stored_lists k new a b c d e A = ap (map AcquireBlock) a
stored_lists k new a b c d e B = ap (map ProbeBlock) b
stored_lists k new a b c d e C = ap (map b_Upward) c
stored_lists k new a b c d e D = ap (map b_Downward) d
stored_lists k new a b c d e E = ap (λ (n : ℕ). replicate n GrantAck) e

-- an Acquire goes on A
acquire_lists :
    (k : Client) (grow : Grow) (l : Channel)
    → list_in (sent_acquire k grow) l ≡ added_here A (AcquireBlock grow) l (list_in k l)
acquire_lists k grow A = map-append AcquireBlock k.a (grow ∷ [])
acquire_lists k grow l = refl

-- a Release goes on C
release_lists :
    (k : Client) (prune : Prune) (l : Channel)
    → list_in (released k prune) l ≡ added_here C (b_Upward (Release (surrender prune (dirty_bytes k.held)))) l (list_in k l)
release_lists k prune C = map-append b_Upward k.c (Release (surrender prune (dirty_bytes k.held)) ∷ [])
release_lists k prune l = refl

-- a Probe goes on B
probe_lists :
    (k : Client) (cap : ProbeCap) (l : Channel) → list_in (sent_probe k cap) l ≡ added_here B (ProbeBlock cap) l (list_in k l)
probe_lists k cap B = map-append ProbeBlock k.b (cap ∷ [])
probe_lists k cap l = refl

-- a Grant goes on D
grant_lists :
    (k : Client) (cap : GrantCap) (bytes : List ℕ) (l : Channel)
    → list_in (sent_grant k cap bytes) l ≡ added_here D (b_Downward (Grant cap (grant_bytes k.recorded bytes))) l (list_in k l)
grant_lists k cap bytes D = map-append b_Downward k.d (Grant cap (grant_bytes k.recorded bytes) ∷ [])
grant_lists k cap bytes l = refl

-- a Probe is taken from B, and its answer goes on C
answer_lists :
    (k : Client) (cap : ProbeCap) (rest : List ProbeCap) → k.b ≡ cap ∷ rest → (l : Channel)
    → list_in (answered k (cap ∷ rest)) l
    ≡ added_here C (b_Upward (ProbeAck (probe_answer (perm_of k.held) cap (dirty_bytes k.held)))) l (shed_here B l (list_in k l))
answer_lists k cap rest e B = ap (λ (b : List ProbeCap). drop 1 (map ProbeBlock b)) (sym e)
answer_lists k cap rest e C =
    map-append b_Upward k.c (ProbeAck (probe_answer (perm_of k.held) cap (dirty_bytes k.held)) ∷ [])
answer_lists k cap rest e l = refl

-- a Grant is taken from D, and a GrantAck goes on E
grant_taken_lists :
    (k : Client) (cap : GrantCap) (bytes : Option (List ℕ)) (rest : List Downward) → k.d ≡ Grant cap bytes ∷ rest → (l : Channel)
    → list_in (took_grant k (Grant cap bytes ∷ rest)) l ≡ added_here E GrantAck l (shed_here D l (list_in k l))
grant_taken_lists k cap bytes rest e D = ap (λ (d : List Downward). drop 1 (map b_Downward d)) (sym e)
grant_taken_lists k cap bytes rest e E = replicate_next k.e GrantAck
grant_taken_lists k cap bytes rest e l = refl

-- a ReleaseAck is taken from D
release_ack_lists :
    (k : Client) (rest : List Downward) → k.d ≡ ReleaseAck ∷ rest → (l : Channel)
    → list_in (took_release_ack k) l ≡ shed_here D l (list_in k l)
release_ack_lists k rest e D =
    ap (λ (d : List Downward). map b_Downward (drop 1 d)) e ∙ ap (λ (d : List Downward). drop 1 (map b_Downward d)) (sym e)
release_ack_lists k rest e l = refl

-- a GrantAck is taken from E
grant_ack_lists : (k : Client) (l : Channel) → list_in (took_grant_ack k) l ≡ shed_here E l (list_in k l)
grant_ack_lists k E = sym (drop-replicate 1 k.e GrantAck)
grant_ack_lists k l = refl

-- an Acquire is taken from A
accept_lists :
    (k : Client) (grow : Grow) (rest : List Grow) → k.a ≡ grow ∷ rest → (l : Channel)
    → list_in (record k { a = rest }) l ≡ shed_here A l (list_in k l)
accept_lists k grow rest e A = ap (λ (a : List Grow). drop 1 (map AcquireBlock a)) (sym e)
accept_lists k grow rest e l = refl

-- an answer to a Probe is taken from C
ack_taken_lists :
    (k : Client) (answer : ProbeAnswer) (rest : List Upward) → k.c ≡ ProbeAck answer ∷ rest → (l : Channel)
    → list_in (took_c_from k (ProbeAck answer ∷ rest)) l ≡ shed_here C l (list_in k l)
ack_taken_lists k answer rest e C = ap (λ (ups : List Upward). drop 1 (map b_Upward ups)) (sym e)
ack_taken_lists k answer rest e l = refl

-- a Release is taken from C, and a ReleaseAck goes on D
release_taken_lists :
    (k : Client) (given : Surrender) (rest : List Upward) → k.c ≡ Release given ∷ rest → (l : Channel)
    → list_in (took_c_from k (Release given ∷ rest)) l ≡ added_here D (b_Downward ReleaseAck) l (shed_here C l (list_in k l))
release_taken_lists k given rest e C = ap (λ (ups : List Upward). drop 1 (map b_Upward ups)) (sym e)
release_taken_lists k given rest e D = map-append b_Downward k.d (ReleaseAck ∷ [])
release_taken_lists k given rest e l = refl

-- the first message is taken from C, and a Release is answered on D
c_lists :
    (c : ℕ) (k : Client) (ups : List Upward) → HasFirst ups → ups ≡ k.c → (l : Channel)
    → list_in (took_c_from k ups) l
    ≡ added (ack_post c ups) c l (shed (Some (record { client = c; channel = C })) c l (list_in k l))
c_lists c k [] first e l = let never = first.2 in cc
c_lists c k (ProbeAck answer ∷ rest) first e l =
    take_moves c C k (took_c_from k (ProbeAck answer ∷ rest)) (ack_taken_lists k answer rest (sym e)) l
c_lists c k (Release given ∷ rest) first e l =
    both_move c C D (b_Downward ReleaseAck) k (took_c_from k (Release given ∷ rest)) (release_taken_lists k given rest (sym e)) l

-- what a TakeC sends is of its client
ack_is_of : (c : ℕ) (ups : List Upward) → PostIsOf c (ack_post c ups)
ack_is_of c [] = tt
ack_is_of c (ProbeAck answer ∷ rest) = tt
ack_is_of c (Release given ∷ rest) = refl

-- ## Each event

-- the lists after an event of one client, by the lists of that client
abbrev Moves : (ℕ → Client) → (ℕ → Client) → Option LinkChannel → Option Post → Type 0
Moves old new take post = (x : ℕ) (l : Channel) → list_in (new x) l ≡ added post x l (shed take x l (list_in (old x) l))

-- a client answers its first Probe
answer_moves :
    (s : Block) (c : ℕ) (b : List ProbeCap) → HasFirst b → b ≡ (s.client c).b
    → Moves s.client (put s.client c (answered (s.client c) b)) (Some (record { client = c; channel = B })) (answer_post c (s.client c) b)
answer_moves s c [] first e = let never = first.2 in cc
answer_moves s c (cap ∷ rest) first e =
    let k : Client = s.client c in
    let body : Body = b_Upward (ProbeAck (probe_answer (perm_of k.held) cap (dirty_bytes k.held))) in
    follow_put s.client c (answered k (cap ∷ rest)) (Some (record { client = c; channel = B }))
    (Some (record { client = c; channel = C; body = body })) refl refl
    (both_move c B C body k (answered k (cap ∷ rest)) (answer_lists k cap rest (sym e)))

-- a client takes its Grant
grant_taken_moves :
    (s : Block) (c : ℕ) (cap : GrantCap) (bytes : Option (List ℕ)) (rest : List Downward) → (s.client c).d ≡ Grant cap bytes ∷ rest
    → Moves s.client (put s.client c (took_grant (s.client c) (Grant cap bytes ∷ rest))) (Some (record { client = c; channel = D }))
    (Some (record { client = c; channel = E; body = GrantAck }))
grant_taken_moves s c cap bytes rest e =
    let k : Client = s.client c in
    follow_put s.client c (took_grant k (Grant cap bytes ∷ rest)) (Some (record { client = c; channel = D }))
    (Some (record { client = c; channel = E; body = GrantAck })) refl refl
    (both_move c D E GrantAck k (took_grant k (Grant cap bytes ∷ rest)) (grant_taken_lists k cap bytes rest e))

-- home accepts an Acquire
accept_moves :
    (s : Block) (c : ℕ) (a : List Grow) → HasFirst a → a ≡ (s.client c).a
    → Moves s.client (accepted_from s c a).client (Some (record { client = c; channel = A })) None
accept_moves s c [] first e = let never = first.2 in cc
accept_moves s c (grow ∷ rest) first e =
    let k : Client = s.client c in
    follow_put s.client c (record k { a = rest }) (Some (record { client = c; channel = A })) None refl tt
    (take_moves c A k (record k { a = rest }) (accept_lists k grow rest (sym e)))

-- home sends a Grant
grant_moves :
    (shape : Shape) (s : Block) (c : ℕ) (accepted : Option Accepted)
    → Moves s.client (grants shape s c accepted).client None (grant_post shape s c accepted)
grant_moves shape s c None = λ x l. refl
grant_moves shape s c (Some acquire) =
    let k : Client = s.client c in
    let cap : GrantCap = granted shape s acquire in
    let bytes : List ℕ = home_bytes s.home in
    let body : Body = b_Downward (Grant cap (grant_bytes k.recorded bytes)) in
    follow_put s.client c (sent_grant k cap bytes) None (Some (record { client = c; channel = D; body = body })) tt refl
    (post_moves c D body k (sent_grant k cap bytes) (grant_lists k cap bytes))

-- what passes between home and the memory leaves the clients
served_clients : (s : Block) (outward : Outward) (x : ℕ) → (served s outward).client x ≡ s.client x
served_clients s Quiet x = refl
served_clients s Get x = refl
served_clients s (Data bytes) x = refl
served_clients s (Put bytes) x = refl
served_clients s PutAck x = refl

-- so does home when it takes the data
took_data_clients : (s : Block) (outward : Outward) (x : ℕ) → (took_data s outward).client x ≡ s.client x
took_data_clients s Quiet x = refl
took_data_clients s Get x = refl
took_data_clients s (Data bytes) x = refl
took_data_clients s (Put bytes) x = refl
took_data_clients s PutAck x = refl

-- each of the 18 events
event_moves :
    (shape : Shape) (s : Block) (e : Event) → MayOn shape s e → Moves s.client (after shape s e).client (take_of e) (post_of shape s e)
event_moves shape s (Load access) may = λ x l. refl
event_moves shape s (Store access) may =
    let k : Client = s.client access.client in
    let new : Client = stored k (access.address % shape.block_bytes) access.bytes in
    follow_put s.client access.client new None None tt tt (stored_lists k new refl refl refl refl refl)
event_moves shape s (SendAcquire c block grow) may =
    let k : Client = s.client c in
    follow_put s.client c (sent_acquire k grow) None (Some (record { client = c; channel = A; body = AcquireBlock grow })) tt refl
    (post_moves c A (AcquireBlock grow) k (sent_acquire k grow) (acquire_lists k grow))
event_moves shape s (SendRelease c block prune) may =
    let k : Client = s.client c in
    let body : Body = b_Upward (Release (surrender prune (dirty_bytes k.held))) in
    follow_put s.client c (released k prune) None (Some (record { client = c; channel = C; body = body })) tt refl
    (post_moves c C body k (released k prune) (release_lists k prune))
event_moves shape s (AnswerProbe c block) may = answer_moves s c (s.client c).b may.1.0 refl
event_moves shape s (TakeGrant c block) may =
    subst (λ (d : List Downward). Moves s.client (put s.client c (took_grant (s.client c) d)) (Some (record { client = c; channel = D }))
    (Some (record { client = c; channel = E; body = GrantAck })))
    (sym may.1.3) (grant_taken_moves s c may.1.0 may.1.1 may.1.2 may.1.3)
event_moves shape s (TakeReleaseAck c block) may =
    let k : Client = s.client c in
    follow_put s.client c (took_release_ack k) (Some (record { client = c; channel = D })) None refl tt
    (take_moves c D k (took_release_ack k) (release_ack_lists k may.1.0 may.1.1))
event_moves shape s (AcceptAcquire c block) may = accept_moves s c (s.client c).a may.1 refl
event_moves shape s (SendProbe c block cap) may =
    let k : Client = s.client c in
    follow_put s.client c (sent_probe k cap) None (Some (record { client = c; channel = B; body = ProbeBlock cap })) tt refl
    (post_moves c B (ProbeBlock cap) k (sent_probe k cap) (probe_lists k cap))
event_moves shape s (TakeC c block) may =
    let k : Client = s.client c in
    follow_put s.client c (took_c_from k k.c) (Some (record { client = c; channel = C })) (ack_post c k.c) refl (ack_is_of c k.c)
    (c_lists c k k.c may.1 refl)
event_moves shape s (SendGrant c block) may = grant_moves shape s c s.accepted
event_moves shape s (TakeGrantAck c block) may =
    let k : Client = s.client c in
    follow_put s.client c (took_grant_ack k) (Some (record { client = c; channel = E })) None refl tt
    (take_moves c E k (took_grant_ack k) (grant_ack_lists k))
event_moves shape s (SendGet block) may = λ x l. refl
event_moves shape s (Serve block) may = λ x l. ap (λ (k : Client). list_in k l) (served_clients s s.outward x)
event_moves shape s (TakeData block) may = λ x l. ap (λ (k : Client). list_in k l) (took_data_clients s s.outward x)
event_moves shape s (Drop block) may = λ x l. refl
event_moves shape s (SendPut block) may = λ x l. refl
event_moves shape s (TakePutAck block) may = λ x l. refl

-- each permitted event moves the lists of its block by what it takes and sends
pub every_event_moves_its_lists : EveryEventMovesItsLists
every_event_moves_its_lists shape s e may = record { follow = event_moves shape s e may.1 }

-- ## What an event leaves

-- another client than the one that changed
away : (client : ℕ → Client) (c : ℕ) (k : Client) (x : ℕ) → x ≢ c → put client c k x ≡ client x
away client c k x n = ap (λ (t : Bool). cond t k (client x)) (ne_eqb x c n)

-- an accepted Acquire leaves the other clients
accepted_away : (s : Block) (c : ℕ) (a : List Grow) (x : ℕ) → x ≢ c → (accepted_from s c a).client x ≡ s.client x
accepted_away s c [] x n = refl
accepted_away s c (grow ∷ rest) x n = away s.client c (record (s.client c) { a = rest }) x n

-- so does a Grant
grants_away :
    (shape : Shape) (s : Block) (c : ℕ) (accepted : Option Accepted) (x : ℕ) → x ≢ c
    → (grants shape s c accepted).client x ≡ s.client x
grants_away shape s c None x n = refl
grants_away shape s c (Some acquire) x n =
    away s.client c (sent_grant (s.client c) (granted shape s acquire) (home_bytes s.home)) x n

-- each event leaves every client but its own
pub every_event_is_of_one_client : EveryEventIsOfOneClient
every_event_is_of_one_client shape s (Load access) x n = refl
every_event_is_of_one_client shape s (Store access) x n = away s.client access.client _ x n
every_event_is_of_one_client shape s (SendAcquire c block grow) x n = away s.client c _ x n
every_event_is_of_one_client shape s (SendRelease c block prune) x n = away s.client c _ x n
every_event_is_of_one_client shape s (AnswerProbe c block) x n = away s.client c _ x n
every_event_is_of_one_client shape s (TakeGrant c block) x n = away s.client c _ x n
every_event_is_of_one_client shape s (TakeReleaseAck c block) x n = away s.client c _ x n
every_event_is_of_one_client shape s (AcceptAcquire c block) x n = accepted_away s c (s.client c).a x n
every_event_is_of_one_client shape s (SendProbe c block cap) x n = away s.client c _ x n
every_event_is_of_one_client shape s (TakeC c block) x n = away s.client c _ x n
every_event_is_of_one_client shape s (SendGrant c block) x n = grants_away shape s c s.accepted x n
every_event_is_of_one_client shape s (TakeGrantAck c block) x n = away s.client c _ x n
every_event_is_of_one_client shape s (SendGet block) x n = refl
every_event_is_of_one_client shape s (Serve block) x n = served_clients s s.outward x
every_event_is_of_one_client shape s (TakeData block) x n = took_data_clients s s.outward x
every_event_is_of_one_client shape s (Drop block) x n = refl
every_event_is_of_one_client shape s (SendPut block) x n = refl
every_event_is_of_one_client shape s (TakePutAck block) x n = refl

-- a Grant leaves home's part
grants_home : (shape : Shape) (s : Block) (c : ℕ) (accepted : Option Accepted) → SameHome s (grants shape s c accepted)
grants_home shape s c None = record { memory = refl; home = refl; accepted = refl; outward = refl }
grants_home shape s c (Some acquire) = record { memory = refl; home = refl; accepted = refl; outward = refl }

-- an event that is of a client alone leaves home's part
pub every_such_event_leaves_home : EverySuchEventLeavesHome
every_such_event_leaves_home shape s (Load access) is = record { memory = refl; home = refl; accepted = refl; outward = refl }
every_such_event_leaves_home shape s (Store access) is = record { memory = refl; home = refl; accepted = refl; outward = refl }
every_such_event_leaves_home shape s (SendAcquire c block grow) is =
    record { memory = refl; home = refl; accepted = refl; outward = refl }
every_such_event_leaves_home shape s (SendRelease c block prune) is =
    record { memory = refl; home = refl; accepted = refl; outward = refl }
every_such_event_leaves_home shape s (AnswerProbe c block) is =
    record { memory = refl; home = refl; accepted = refl; outward = refl }
every_such_event_leaves_home shape s (TakeGrant c block) is =
    record { memory = refl; home = refl; accepted = refl; outward = refl }
every_such_event_leaves_home shape s (TakeReleaseAck c block) is =
    record { memory = refl; home = refl; accepted = refl; outward = refl }
every_such_event_leaves_home shape s (SendProbe c block cap) is =
    record { memory = refl; home = refl; accepted = refl; outward = refl }
every_such_event_leaves_home shape s (SendGrant c block) is = grants_home shape s c s.accepted
every_such_event_leaves_home shape s e is = cc
