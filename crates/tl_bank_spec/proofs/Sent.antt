-- What each event that sends a message sent waits under its ticket.
use Rattle.std.proofs.Common.{◌≡◌, ℕ, Bool, true, false, List, [], ◌∷◌, Option, Some, None, if◌then◌else◌, refl, sym, subst}
use Rattle.std.specs.Prelude.{IfSome}
use Rattle.tl_types.specs.Lane.{bodies_of}
use Rattle.tl_types.specs.declared.channel.Channel.TheVariants.{A, B, C, D, E}
use Rattle.tl_types.specs.declared.message.Body.{Body}
use Rattle.tl_types.specs.declared.message.Body.TheVariants.{AcquireBlock, ProbeBlock, Upward as b_Upward, Downward as b_Downward, GrantAck}
use Rattle.tl_types.specs.declared.message.Downward.TheVariants.{ReleaseAck}
use Rattle.tl_types.specs.declared.message.Message.{Message}
use Rattle.tl_types.specs.declared.message.Upward.{Upward}
use Rattle.tl_types.specs.declared.message.Upward.TheVariants.{ProbeAck, Release}
use Rattle.tl_types.specs.declared.permission.Grow.{Grow}
use Rattle.tl_types.specs.declared.permission.ProbeCap.{ProbeCap}
use Rattle.tl_types.specs.declared.permission.Prune.{Prune}
use Rattle.tl_types.specs.declared.ticket.Ticket.{Ticket}
use Rattle.tl_protocol.specs.Protocol.{Block}
use Rattle.tl_protocol.specs.Queue.{HasFirst}
use Rattle.tl_protocol.specs.Runs.{IsRun}
use Rattle.tl_protocol.specs.declared.client.Client.{Client}
use Rattle.tl_protocol.specs.declared.event.Event.{Event}
use Rattle.tl_protocol.specs.declared.event.Event.TheVariants.{SendAcquire, SendRelease, AnswerProbe, TakeGrant, SendProbe, TakeC, SendGrant}
use Rattle.tl_protocol.specs.declared.home.Accepted.{Accepted}
use Rattle.tl_protocol.specs.declared.shape.Shape.{Shape}
use Rattle.tl_protocol_lanes.specs.Lanes.{ack_post, answer_post, grant_post}
use Rattle.tl_protocol_lanes.specs.Lawful.{Lawful}
use Rattle.tl_protocol_lanes.proofs.First.{every_first_is_first}
use Rattle.tl_protocol_lanes.proofs.Logs.{first_heads_its_list}
use Rattle.tl_bank_spec.specs.Cases.{begins, block_named, first_block, is_a_release, waiting_at}
use Rattle.tl_bank_spec.specs.Delivered.{Sends}
use Rattle.tl_bank_spec.specs.Effects.{answer_to}
use Rattle.tl_bank_spec.specs.View.{View, end_at, shape_of}
use Rattle.tl_bank_spec.specs.Steps.{Extends}
use Rattle.tl_bank_spec.specs.Channels.{lane_at, next_ticket}
use Rattle.tl_bank_spec.proofs.Delivered.{every_message_sent_waits}
use Rattle.tl_bank_spec.proofs.Logged.{may-next}

-- ## Each event that sends

-- an Acquire
pub sends-acquire : (v w : View) (c b : ℕ) (grow : Grow) → Extends v w (SendAcquire c b grow)
    → IsRun (shape_of w.geometry) w.image w.log → Sends v w (SendAcquire c b grow) (next_ticket v c A)
sends-acquire v w c b grow x run =
    let e : Event = SendAcquire c b grow in
    every_message_sent_waits v w e (record { client = c; channel = A; body = AcquireBlock grow }) (may-next v w e x run) x refl

-- a Release
pub sends-release : (v w : View) (c b : ℕ) (prune : Prune) → Extends v w (SendRelease c b prune)
    → IsRun (shape_of w.geometry) w.image w.log → Sends v w (SendRelease c b prune) (next_ticket v c C)
sends-release v w c b prune x run =
    let e : Event = SendRelease c b prune in
    every_message_sent_waits v w e (record { client = c; channel = C; body = _ }) (may-next v w e x run) x refl

-- where a Probe waits, answering it sends a message on C
answer-posts : (c : ℕ) (k : Client) (caps : List ProbeCap) → HasFirst caps
    → (body : Body) × (answer_post c k caps ≡ Some (record { client = c; channel = C; body = body }))
answer-posts c k [] first = let no : [] ≡ first.0 ∷ first.1 = first.2 in cc
answer-posts c k (cap ∷ rest) first = (_, refl)

-- the answer to a Probe
pub sends-answer : (v w : View) (c b : ℕ) → Extends v w (AnswerProbe c b)
    → IsRun (shape_of w.geometry) w.image w.log → Sends v w (AnswerProbe c b) (next_ticket v c C)
sends-answer v w c b x run =
    let e : Event = AnswerProbe c b in
    let may = may-next v w e x run in
    let post = answer-posts c ((end_at v b).client c) ((end_at v b).client c).b may.1.1.0 in
    every_message_sent_waits v w e (record { client = c; channel = C; body = post.0 }) may x post.1

-- a GrantAck
pub sends-grant-ack : (v w : View) (c b : ℕ) → Extends v w (TakeGrant c b)
    → IsRun (shape_of w.geometry) w.image w.log → Sends v w (TakeGrant c b) (next_ticket v c E)
sends-grant-ack v w c b x run =
    let e : Event = TakeGrant c b in
    every_message_sent_waits v w e (record { client = c; channel = E; body = GrantAck }) (may-next v w e x run) x refl

-- a Probe
pub sends-probe : (v w : View) (c b : ℕ) (cap : ProbeCap) → Extends v w (SendProbe c b cap)
    → IsRun (shape_of w.geometry) w.image w.log → Sends v w (SendProbe c b cap) (next_ticket v c B)
sends-probe v w c b cap x run =
    let e : Event = SendProbe c b cap in
    every_message_sent_waits v w e (record { client = c; channel = B; body = ProbeBlock cap }) (may-next v w e x run) x refl

-- where an Acquire is accepted, granting it sends a message on D
grant-posts : (shape : Shape) (s : Block) (c : ℕ) (accepted : Option Accepted) (acquire : Accepted) → accepted ≡ Some acquire
    → (body : Body) × (grant_post shape s c accepted ≡ Some (record { client = c; channel = D; body = body }))
grant-posts shape s c None acquire is = cc
grant-posts shape s c (Some first) acquire is = (_, refl)

-- a Grant
pub sends-grant : (v w : View) (c b : ℕ) → Extends v w (SendGrant c b)
    → IsRun (shape_of w.geometry) w.image w.log → Sends v w (SendGrant c b) (next_ticket v c D)
sends-grant v w c b x run =
    let e : Event = SendGrant c b in
    let may = may-next v w e x run in
    let post = grant-posts (shape_of v.geometry) (end_at v b) c (end_at v b).accepted _ may.1.1.0.1 in
    every_message_sent_waits v w e (record { client = c; channel = D; body = post.0 }) may x post.1

-- ## The ReleaseAck

-- a message that is a Release is a Release
release-posts : (c : ℕ) (list : List Upward) (body : Body) (first : Upward) (rest : List Upward) → body ≡ b_Upward first
    → list ≡ first ∷ rest → is_a_release body ≡ true
    → ack_post c list ≡ Some (record { client = c; channel = D; body = b_Downward ReleaseAck })
release-posts c list body (ProbeAck answer) rest is at release =
    let no : is_a_release (b_Upward (ProbeAck answer)) ≡ true = subst (λ (x : Body). is_a_release x ≡ true) is release in cc
release-posts c list body (Release given) rest is at release =
    subst (λ (xs : List Upward). ack_post c xs ≡ Some (record { client = c; channel = D; body = b_Downward ReleaseAck })) (sym at) refl

-- where the first message of C is a Release, taking it sends a ReleaseAck
acks : (v : View) (c : ℕ) (messages : List Message) → Lawful (shape_of v.geometry) v.image v.log
    → messages ≡ (lane_at v c C).messages → begins is_a_release messages ≡ true
    → ack_post c ((end_at v (first_block messages)).client c).c
    ≡ Some (record { client = c; channel = D; body = b_Downward ReleaseAck })
acks v c [] lawful is release = cc
acks v c (message ∷ rest) lawful is release =
    let k : Client = (end_at v message.block).client c in
    let heads = first_heads_its_list (shape_of v.geometry) v.image v.log c C message rest lawful (sym is) in
    let first = (every_first_is_first k).on_c message.body (bodies_of message.block rest) heads in
    release-posts c k.c message.body first.0 first.1 first.2 first.3 release

-- a ReleaseAck, as home takes a Release
pub sends-ack : (v w : View) (c : ℕ) → Lawful (shape_of v.geometry) v.image v.log
    → begins is_a_release (lane_at v c C).messages ≡ true → Extends v w (TakeC c (first_block (lane_at v c C).messages))
    → IsRun (shape_of w.geometry) w.image w.log
    → Sends v w (TakeC c (first_block (lane_at v c C).messages)) (next_ticket v c D)
sends-ack v w c lawful release x run =
    let messages : List Message = (lane_at v c C).messages in
    let e : Event = TakeC c (first_block messages) in
    every_message_sent_waits v w e (record { client = c; channel = D; body = b_Downward ReleaseAck }) (may-next v w e x run) x
    (acks v c messages lawful refl release)

-- whether or not it was a Release
acked : (v w : View) (ticket : Ticket) (t : Bool) → begins is_a_release (waiting_at v ticket C) ≡ t
    → Lawful (shape_of v.geometry) v.image v.log → Extends v w (TakeC ticket.client (block_named v ticket C))
    → IsRun (shape_of w.geometry) w.image w.log
    → IfSome (if t then Some (next_ticket v ticket.client D) else None)
    (λ ack. Sends v w (TakeC ticket.client (block_named v ticket C)) ack)
acked v w ticket true release lawful x run = sends-ack v w ticket.client lawful release x run
acked v w ticket false release lawful x run = tt

-- the ReleaseAck that home sends as it takes a message of C, if it sends one
pub sends-if : (v w : View) (ticket : Ticket) (sent : Option Ticket) → sent ≡ answer_to v ticket
    → Lawful (shape_of v.geometry) v.image v.log → Extends v w (TakeC ticket.client (block_named v ticket C))
    → IsRun (shape_of w.geometry) w.image w.log
    → IfSome sent (λ ack. Sends v w (TakeC ticket.client (block_named v ticket C)) ack)
sends-if v w ticket sent is lawful x run =
    subst (λ (o : Option Ticket). IfSome o (λ ack. Sends v w (TakeC ticket.client (block_named v ticket C)) ack)) (sym is)
    (acked v w ticket (begins is_a_release (waiting_at v ticket C)) refl lawful x run)

-- ## Under another name

-- what waits under a ticket waits under one that is the same
pub sends-as : (v w : View) (e : Event) (t u : Ticket) → u ≡ t → Sends v w e t → Sends v w e u
sends-as v w e t u is sends = subst (λ (x : Ticket). Sends v w e x) (sym is) sends
