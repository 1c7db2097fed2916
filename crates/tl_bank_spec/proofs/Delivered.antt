-- The message that an event sent waits where its ticket says, and the one that it took was first.
use Rattle.std.proofs.Common.{◌≡◌, ℕ, ◌-◌, ◌<◌, ◌==◌, true, false, List, [], ◌∷◌, ◌++◌, length, Option, Some, None, slice_get, refl, sym, ◌∙◌, ap, subst, arith, eq-eqb, nat_lt, nat_le, append_assoc}
use Rattle.std.proofs.lemmas.Bool.{le-ltb, lt-leb}
use Rattle.std.proofs.lemmas.List.{append-nil}
use Rattle.std.proofs.Math.Bool.{and-false}
use Rattle.tl_types.proofs.Lanes.{is_here-self}
use Rattle.tl_types.specs.Channel.{same_channel}
use Rattle.tl_types.specs.Lane.{Lane, IsFirst, message_at, sent, with_message, without_first}
use Rattle.tl_types.specs.declared.channel.Channel.{Channel}
use Rattle.tl_types.specs.declared.channel.Channel.TheVariants.{B, C}
use Rattle.tl_types.specs.declared.message.Message.{Message}
use Rattle.tl_types.specs.declared.message.Upward.{Upward}
use Rattle.tl_types.specs.declared.message.Upward.TheVariants.{ProbeAck, Release}
use Rattle.tl_types.specs.declared.permission.ProbeCap.{ProbeCap}
use Rattle.tl_protocol.specs.Protocol.{Block, MayOn, block_of}
use Rattle.tl_protocol.specs.declared.client.Client.{Client}
use Rattle.tl_protocol.specs.declared.event.Event.{Event}
use Rattle.tl_protocol.specs.declared.event.Event.TheVariants.{SendAcquire, SendRelease, AnswerProbe, TakeGrant, SendProbe, TakeC, SendGrant}
use Rattle.tl_protocol.specs.declared.home.Accepted.{Accepted}
use Rattle.tl_protocol.specs.declared.shape.Shape.{Shape}
use Rattle.tl_protocol_lanes.specs.Lanes.{LinkChannel, Post, ack_post, answer_post, grant_post, post_of, sent_to, take_of, taken_from}
use Rattle.tl_protocol_lanes.specs.Lawful.{IsNext, TakeInOrder, TakesFirst}
use Rattle.tl_bank_spec.specs.Delivered.{EveryMessageSentWaits, EveryMessageTakenIsFirst}
use Rattle.tl_bank_spec.specs.View.{View, end_at, shape_of}
use Rattle.tl_bank_spec.specs.Steps.{Extends}
use Rattle.tl_bank_spec.specs.Channels.{lane_at, next_ticket}
use Rattle.tl_bank_spec.specs.Views.{in_flight_at}
use Rattle.tl_bank_spec.proofs.Logged.{back, lane-next}

-- ## One lane

-- the last of a list is behind all others
last_of : {X : Type 0} (xs : List X) (x : X) → slice_get (xs ++ x ∷ []) (length xs) ≡ Some x
last_of [] x = refl
last_of (y ∷ ys) x = last_of ys x

-- a message that was sent has the serial of the next
pub message_at-sent : (lane : Lane) (m : Message) → message_at (with_message lane m) (sent lane) ≡ Some m
message_at-sent lane m =
    let past : nat_lt (sent lane) lane.taken ≡ false = le-ltb (sent lane) lane.taken (omega arith) in
    let place : sent lane - lane.taken ≡ length lane.messages = omega arith in
    rw (past, place) (last_of lane.messages m)

-- ## Where an event takes and sends

-- a channel from which nothing is taken on which something is sent
abbrev Apart : Option LinkChannel → Post → Type 0
Apart None post = Unit {0}
Apart (Some place) post =
    (same_channel post.channel place.channel ≡ false) × (same_channel place.channel post.channel ≡ false)

-- so it is with what an event takes and sends, where it sends anything
abbrev ApartIf : Option LinkChannel → Option Post → Type 0
ApartIf place None = Unit {0}
ApartIf place (Some post) = Apart place post

-- what is sent is of a client that is there
abbrev IsOfOne : ℕ → Option Post → Type 0
IsOfOne clients None = Unit {0}
IsOfOne clients (Some post) = post.client < clients

-- an answer to a Probe goes on C
answer-apart : (c : ℕ) (k : Client) (caps : List ProbeCap) → ApartIf (Some (record { client = c; channel = B })) (answer_post c k caps)
answer-apart c k [] = tt
answer-apart c k (cap ∷ rest) = (refl, refl)

-- a ReleaseAck goes on D
ack-apart : (c : ℕ) (list : List Upward) → ApartIf (Some (record { client = c; channel = C })) (ack_post c list)
ack-apart c [] = tt
ack-apart c (ProbeAck answer ∷ rest) = tt
ack-apart c (Release given ∷ rest) = (refl, refl)

-- a Grant is sent by an event that takes nothing
grant-apart : (shape : Shape) (s : Block) (c : ℕ) (accepted : Option Accepted) → ApartIf None (grant_post shape s c accepted)
grant-apart shape s c None = tt
grant-apart shape s c (Some acquire) = tt

-- each event takes from another channel than it sends on
apart : (shape : Shape) (s : Block) (e : Event) → ApartIf (take_of e) (post_of shape s e)
apart shape s (SendAcquire c block grow) = tt
apart shape s (SendRelease c block prune) = tt
apart shape s (AnswerProbe c block) = answer-apart c (s.client c) (s.client c).b
apart shape s (TakeGrant c block) = (refl, refl)
apart shape s (SendProbe c block cap) = tt
apart shape s (TakeC c block) = ack-apart c (s.client c).c
apart shape s (SendGrant c block) = grant-apart shape s c s.accepted
apart shape s e = tt

-- an answer to a Probe is of its client
answer-one : (clients c : ℕ) (k : Client) (caps : List ProbeCap) → c < clients → IsOfOne clients (answer_post c k caps)
answer-one clients c k [] lt = tt
answer-one clients c k (cap ∷ rest) lt = lt

-- so is a ReleaseAck
ack-one : (clients c : ℕ) (list : List Upward) → c < clients → IsOfOne clients (ack_post c list)
ack-one clients c [] lt = tt
ack-one clients c (ProbeAck answer ∷ rest) lt = tt
ack-one clients c (Release given ∷ rest) lt = lt

-- so is a Grant
grant-one : (shape : Shape) (s : Block) (clients c : ℕ) (accepted : Option Accepted) → c < clients
    → IsOfOne clients (grant_post shape s c accepted)
grant-one shape s clients c None lt = tt
grant-one shape s clients c (Some acquire) lt = lt

-- what a permitted event sends is of a client that is there
of-one : (shape : Shape) (s : Block) (e : Event) → MayOn shape s e → IsOfOne shape.clients (post_of shape s e)
of-one shape s (SendAcquire c block grow) may = may.0
of-one shape s (SendRelease c block prune) may = may.0
of-one shape s (AnswerProbe c block) may = answer-one shape.clients c (s.client c) (s.client c).b may.0
of-one shape s (TakeGrant c block) may = may.0
of-one shape s (SendProbe c block cap) may = may.0
of-one shape s (TakeC c block) may = ack-one shape.clients c (s.client c).c may.0
of-one shape s (SendGrant c block) may = grant-one shape s shape.clients c s.accepted may.0
of-one shape s e may = tt

-- ## What is sent

-- nothing is taken from the channel on which a message is sent
untaken : (place : Option LinkChannel) (post : Post) (lane : Lane) → Apart place post
    → taken_from place post.client post.channel lane ≡ lane
untaken None post lane away = refl
untaken (Some place) post lane away = rw (away.0, and-false (post.client == place.client)) refl

-- a message that is sent goes last on its lane
sent-here : (post : Post) (block : ℕ) (lane : Lane)
    → sent_to (Some post) block post.client post.channel lane ≡ with_message lane (record { block = block; body = post.body })
sent-here post block lane = rw (is_here-self post.client post.channel) refl

-- the ticket is of a client that is there, and of the bank itself
known : (v w : View) (e : Event) (c : ℕ) (l : Channel) → Extends v w e → c < v.geometry.clients
    → in_flight_at w (next_ticket v c l) ≡ message_at (lane_at w c l) (sent (lane_at v c l))
known v w e c l x lt =
    let outside : nat_le w.geometry.clients c ≡ false = lt-leb w.geometry.clients c (rw x.geometry lt) in
    let own : (v.number == w.number) ≡ true = eq-eqb v.number w.number (sym x.number) in
    rw (outside, own) refl

-- what a permitted event sends waits under the next ticket of its channel
pub every_message_sent_waits : EveryMessageSentWaits
every_message_sent_waits old new e post may x is =
    let shape : Shape = shape_of old.geometry in
    let block : ℕ = block_of shape e in
    let s : Block = end_at old block in
    let c : ℕ = post.client in
    let l : Channel = post.channel in
    let lane : Lane = lane_at old c l in
    let message : Message = record { block = block; body = post.body } in
    let away : Apart (take_of e) post = subst (λ (p : Option Post). ApartIf (take_of e) p) is (apart shape s e) in
    let lt : c < old.geometry.clients = subst (λ (p : Option Post). IsOfOne shape.clients p) is (of-one shape s e may.1) in
    let longer : lane_at new c l ≡ with_message lane message =
    lane-next old new e c l x
    ∙ (ap (λ (from : Lane). sent_to (post_of shape s e) block c l from) (untaken (take_of e) post lane away)
    ∙ (ap (λ (p : Option Post). sent_to p block c l lane) is ∙ sent-here post block lane)) in
    record {
      post = post;
      sent = is;
      named = refl;
      waits =
          known old new e c l x lt
          ∙ (ap (λ (after : Lane). message_at after (sent lane)) longer ∙ message_at-sent lane message);
    }

-- ## What is taken

-- a channel whose first message is of a block has a first one, which is
first-is : (block : ℕ) (messages : List Message) → IsFirst block messages
    → (m : Message) × (rest : List Message) × (messages ≡ m ∷ rest) × (m.block ≡ block)
first-is block [] first = absurd first
first-is block (m ∷ rest) first = (m, rest, refl, first)

-- the last event of those that take in order takes the first message of its channel
last-takes : (shape : Shape) (image : List ℕ) (log es : List Event) (e : Event) → TakeInOrder shape image log (es ++ e ∷ [])
    → TakesFirst shape image (log ++ es) e
last-takes shape image log [] e takes = subst (λ (before : List Event). TakesFirst shape image before e) (sym (append-nil log)) takes.0
last-takes shape image log (y ∷ es) e takes =
    subst (λ (before : List Event). TakesFirst shape image before e) (append_assoc log (y ∷ []) es)
    (last-takes shape image (log ++ y ∷ []) es e takes.1)

-- an event that takes from a channel sends nothing there
unsent : (place : LinkChannel) (post : Option Post) (block : ℕ) (lane : Lane) → ApartIf (Some place) post
    → sent_to post block place.client place.channel lane ≡ lane
unsent place None block lane away = refl
unsent place (Some post) block lane away = rw (away.1, and-false (place.client == post.client)) refl

-- what the last event of a lawful log took was the first message of its channel
pub every_message_taken_is_first : EveryMessageTakenIsFirst
every_message_taken_is_first old new e place lawful x is =
    let shape : Shape = shape_of old.geometry in
    let block : ℕ = block_of shape e in
    let s : Block = end_at old block in
    let takes : TakeInOrder shape old.image [] (old.log ++ e ∷ []) =
    back (λ g i log. TakeInOrder (shape_of g) i [] log) old new e x lawful.takes in
    let next : IsNext shape old.image old.log block (take_of e) = last-takes shape old.image [] old.log e takes in
    let first = first-is block (lane_at old place.client place.channel).messages
    (subst (λ (p : Option LinkChannel). IsNext shape old.image old.log block p) is next) in
    let away : ApartIf (Some place) (post_of shape s e) =
    subst (λ (p : Option LinkChannel). ApartIf p (post_of shape s e)) is (apart shape s e) in
    let lane : Lane = lane_at old place.client place.channel in
    let shorter : taken_from (take_of e) place.client place.channel lane ≡ without_first lane =
    ap (λ (p : Option LinkChannel). taken_from p place.client place.channel lane) is
    ∙ rw (is_here-self place.client place.channel) refl in
    record {
      message = first.0;
      rest = first.1;
      first = first.2;
      block = first.3;
      left =
          lane-next old new e place.client place.channel x
          ∙ (ap (λ (from : Lane). sent_to (post_of shape s e) block place.client place.channel from) shorter
          ∙ unsent place (post_of shape s e) block (without_first lane) away);
    }
