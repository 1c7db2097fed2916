-- A lawful log stays lawful with one more permitted event that takes the first message of its channel.
use Rattle.std.proofs.Common.{◌≡◌, ℕ, ◌+◌, ◌≤◌, ◌==◌, Bool, true, false, cond, List, [], ◌∷◌, ◌++◌, length, drop, Option, Some, None, refl, sym, ap, ◌∙◌, subst, arith, append_assoc, length-append, eqb-true, eq-eqb}
use Rattle.std.specs.List.{All}
use Rattle.std.proofs.lemmas.List.{append-nil}
use Rattle.std.proofs.lemmas.List.Elements.{All-nil, All-cons, All-append, All-drop}
use Rattle.tl_types.specs.Codes.{channel_of}
use Rattle.tl_types.specs.Lane.{Lane, empty_lane, sent, is_here, with_message, first_taken, without_first, bodies_of, IsFirst}
use Rattle.tl_types.specs.Message.{probe_answer, surrender}
use Rattle.tl_types.specs.Bodies.{body_kind, answer_kind, surrender_kind}
use Rattle.tl_types.specs.declared.channel.Channel.{Channel}
use Rattle.tl_types.specs.declared.channel.Channel.TheVariants.{A, B, C, D, E}
use Rattle.tl_types.specs.declared.permission.ProbeCap.{ProbeCap}
use Rattle.tl_types.specs.declared.message.Body.{Body}
use Rattle.tl_types.specs.declared.message.Body.TheVariants.{Downward as b_Downward}
use Rattle.tl_types.specs.declared.message.Message.{Message}
use Rattle.tl_types.specs.declared.message.ProbeAnswer.{ProbeAnswer}
use Rattle.tl_types.specs.declared.message.ProbeAnswer.TheVariants.{TtoB as a_TtoB, TtoN as a_TtoN, BtoB as a_BtoB, BtoN as a_BtoN, NtoN as a_NtoN}
use Rattle.tl_types.specs.declared.message.Surrender.{Surrender}
use Rattle.tl_types.specs.declared.message.Surrender.TheVariants.{TtoB as s_TtoB, TtoN as s_TtoN, BtoN as s_BtoN}
use Rattle.tl_types.specs.declared.message.Upward.{Upward}
use Rattle.tl_types.specs.declared.message.Upward.TheVariants.{ProbeAck, Release}
use Rattle.tl_types.specs.declared.message.Downward.{Downward}
use Rattle.tl_types.specs.declared.message.Downward.TheVariants.{Grant, ReleaseAck}
use Rattle.tl_types.proofs.Lanes.{is_here-true, sent-with_message, sent-without_first, bodies_of-with_message, bodies_of-without_first, bodies_of-first}
use Rattle.tl_protocol.specs.declared.client.Client.{Client}
use Rattle.tl_protocol.specs.declared.event.Event.{Event}
use Rattle.tl_protocol.specs.declared.event.Event.TheVariants.{SendAcquire, SendRelease, AnswerProbe, TakeGrant, SendProbe, TakeC, SendGrant}
use Rattle.tl_protocol.specs.declared.home.Accepted.{Accepted}
use Rattle.tl_protocol.specs.declared.shape.Shape.{Shape}
use Rattle.tl_protocol.specs.Client.{grant_bytes}
use Rattle.tl_protocol.specs.Copy.{perm_of, dirty_bytes}
use Rattle.tl_protocol.specs.Protocol.{Block, block_of, after, granted, home_bytes}
use Rattle.tl_protocol.specs.Runs.{at_reset, after_next, MayNext, IsRunFrom, end_from, end_of}
use Rattle.tl_protocol.proofs.Runs.{run_joined, end_joined}
use Rattle.tl_protocol_lanes.specs.Lanes.{Post, LinkChannel, post_of, take_of, answer_post, ack_post, grant_post, taken_from, sent_to, lane_after, lane_from, lane_of}
use Rattle.tl_protocol_lanes.specs.Lists.{list_in, shed, added, ListsFollow}
use Rattle.tl_protocol_lanes.specs.Lawful.{IsNext, TakesFirst, TakeInOrder, Lawful, Interleaves, EmptyIsLawful, EveryLawfulLogInterleaves, LawfulGrowsByOne, LanesGrowByOne, FirstHeadsItsList, MessagesFitTheirChannels}
use Rattle.tl_protocol_lanes.proofs.Events.{every_event_moves_its_lists}

-- ## One more event

-- the lane after one more event, from any state on
lane_from-append :
    (shape : Shape) (s : ℕ → Block) (x : ℕ) (l : Channel) (lane : Lane) (es : List Event) (e : Event)
    → lane_from shape s x l lane (es ++ e ∷ [])
    ≡ lane_after shape (end_from shape s es (block_of shape e)) e x l (lane_from shape s x l lane es)
lane_from-append shape s x l lane [] e = refl
lane_from-append shape s x l lane (first ∷ es) e =
    lane_from-append shape (after_next shape s first) x l (lane_after shape (s (block_of shape first)) first x l lane) es e

-- one more event takes from the lanes and sends on them
pub lanes_grow_by_one : LanesGrowByOne
unfolding lane_of
lanes_grow_by_one shape image log e x l = lane_from-append shape (at_reset shape image) x l empty_lane log e

-- a block after one more event
pub end_of-append :
    (shape : Shape) (image : List ℕ) (log : List Event) (e : Event)
    → end_of shape image (log ++ e ∷ []) ≡ after_next shape (end_of shape image log) e
end_of-append shape image log e = end_joined shape (at_reset shape image) log (e ∷ [])

-- ## A block's list in a lane

-- the same in both cases
same_cond : {X : Type 0} (t : Bool) (x : X) → x ≡ cond t x x
same_cond true x = refl
same_cond false x = refl

-- whether or not the message is sent here
bodies-sent_if :
    (t : Bool) (block of : ℕ) (lane : Lane) (body : Body)
    → bodies_of block (cond t (with_message lane (record { block = of; body = body })) lane).messages
    ≡ cond (of == block) (cond t (bodies_of block lane.messages ++ body ∷ []) (bodies_of block lane.messages)) (bodies_of block lane.messages)
bodies-sent_if true block of lane body = bodies_of-with_message block lane (record { block = of; body = body })
bodies-sent_if false block of lane body = same_cond (of == block) (bodies_of block lane.messages)

-- whether or not the message is taken here
bodies-taken_if :
    (t : Bool) (block of : ℕ) (lane : Lane) → (t ≡ true → IsFirst of lane.messages)
    → bodies_of block (cond t (without_first lane) lane).messages
    ≡ cond (of == block) (cond t (drop 1 (bodies_of block lane.messages)) (bodies_of block lane.messages)) (bodies_of block lane.messages)
bodies-taken_if true block of lane first = bodies_of-without_first block of lane (first refl)
bodies-taken_if false block of lane first = same_cond (of == block) (bodies_of block lane.messages)

-- where something is taken from the lane, its first message is of the block
abbrev pub FirstIf : Option LinkChannel → ℕ → ℕ → Channel → Lane → Type 0
FirstIf None of x l lane = Unit {0}
FirstIf (Some place) of x l lane = is_here place.client place.channel x l ≡ true → IsFirst of lane.messages

-- a message that is sent joins its block's list alone
bodies-sent :
    (post : Option Post) (block of x : ℕ) (l : Channel) (lane : Lane)
    → bodies_of block (sent_to post of x l lane).messages
    ≡ cond (of == block) (added post x l (bodies_of block lane.messages)) (bodies_of block lane.messages)
bodies-sent None block of x l lane = same_cond (of == block) (bodies_of block lane.messages)
bodies-sent (Some post) block of x l lane = bodies-sent_if (is_here post.client post.channel x l) block of lane post.body

-- a message that is taken was the first of its block's list
bodies-taken :
    (take : Option LinkChannel) (block of x : ℕ) (l : Channel) (lane : Lane) → FirstIf take of x l lane
    → bodies_of block (taken_from take x l lane).messages
    ≡ cond (of == block) (shed take x l (bodies_of block lane.messages)) (bodies_of block lane.messages)
bodies-taken None block of x l lane first = same_cond (of == block) (bodies_of block lane.messages)
bodies-taken (Some place) block of x l lane first = bodies-taken_if (is_here place.client place.channel x l) block of lane first

-- the same test twice
nested :
    (t : Bool) (f g : List Body → List Body) (xs : List Body) → cond t (f (cond t (g xs) xs)) (cond t (g xs) xs) ≡ cond t (f (g xs)) xs
nested true f g xs = refl
nested false f g xs = refl

-- a block's list after what is taken and sent
bodies-after :
    (post : Option Post) (take : Option LinkChannel) (block of x : ℕ) (l : Channel) (lane : Lane) → FirstIf take of x l lane
    → bodies_of block (sent_to post of x l (taken_from take x l lane)).messages
    ≡ cond (of == block) (added post x l (shed take x l (bodies_of block lane.messages))) (bodies_of block lane.messages)
bodies-after post take block of x l lane first =
    bodies-sent post block of x l (taken_from take x l lane)
    ∙ (ap (λ (xs : List Body). cond (of == block) (added post x l xs) xs) (bodies-taken take block of x l lane first)
    ∙ nested (of == block) (added post x l) (shed take x l) (bodies_of block lane.messages))

-- the first message of the channel is the first of each lane that it is
pub first_if :
    (shape : Shape) (image : List ℕ) (log : List Event) (take : Option LinkChannel) (of x : ℕ) (l : Channel)
    → IsNext shape image log of take → FirstIf take of x l (lane_of shape image log x l)
first_if shape image log None of x l next = tt
first_if shape image log (Some place) of x l next = λ h.
    let at = is_here-true place.client place.channel x l h in
    subst (λ (y : ℕ). IsFirst of (lane_of shape image log y l).messages) (sym at.0)
    (subst (λ (k : Channel). IsFirst of (lane_of shape image log place.client k).messages) (sym at.1) next)

-- ## Lawful logs

-- a block's list after one more event
list-after :
    (shape : Shape) (own s : Block) (e : Event) (block x : ℕ) (l : Channel) (bodies : List Body) (t : Bool)
    → ListsFollow shape own e → (t ≡ true → s ≡ own) → list_in (s.client x) l ≡ bodies
    → list_in ((cond t (after shape s e) s).client x) l
    ≡ cond t (added (post_of shape own e) x l (shed (take_of e) x l bodies)) bodies
list-after shape own s e block x l bodies true follows same is =
    ap (λ (r : Block). list_in ((after shape r e).client x) l) (same refl)
    ∙ (follows.follow x l
    ∙ ap (λ (ys : List Body). added (post_of shape own e) x l (shed (take_of e) x l ys))
    (ap (λ (r : Block). list_in (r.client x) l) (sym (same refl)) ∙ is))
list-after shape own s e block x l bodies false follows same is = is

-- by what the two tests say
swapped : (x y : ℕ) (t u : Bool) → (x == y) ≡ t → (y == x) ≡ u → (x == y) ≡ (y == x)
swapped x y true u e f = e ∙ sym (eq-eqb y x (sym (eqb-true x y e)))
swapped x y false true e f = let same : (x == y) ≡ true = eq-eqb x y (sym (eqb-true y x f)) in cc
swapped x y false false e f = e ∙ sym f

-- equality of numbers, either way round
eqb_swap : (x y : ℕ) → (x == y) ≡ (y == x)
eqb_swap x y = swapped x y (x == y) (y == x) refl refl

-- each list of the block is still the channel's
ordered-after :
    (shape : Shape) (image : List ℕ) (log : List Event) (e : Event) → Interleaves shape image log
    → MayNext shape (end_of shape image log) e → TakesFirst shape image log e → (x block : ℕ) (l : Channel)
    → list_in ((end_of shape image (log ++ e ∷ []) block).client x) l
    ≡ bodies_of block (lane_of shape image (log ++ e ∷ []) x l).messages
ordered-after shape image log e before may takes x block l =
    let of : ℕ = block_of shape e in
    let own : Block = end_of shape image log of in
    let s : Block = end_of shape image log block in
    let lane : Lane = lane_of shape image log x l in
    let bodies : List Body = bodies_of block lane.messages in
    let follows : ListsFollow shape own e = every_event_moves_its_lists shape own e may in
    ap (λ (t : ℕ → Block). list_in ((t block).client x) l) (end_of-append shape image log e)
    ∙ (list-after shape own s e block x l bodies (block == of) follows
    (λ h. ap (end_of shape image log) (eqb-true block of h)) (before.ordered x block l)
    ∙ (ap (λ (t : Bool). cond t (added (post_of shape own e) x l (shed (take_of e) x l bodies)) bodies) (eqb_swap block of)
    ∙ (sym (bodies-after (post_of shape own e) (take_of e) block of x l lane (first_if shape image log (take_of e) of x l takes))
    ∙ ap (λ (after : Lane). bodies_of block after.messages) (sym (lanes_grow_by_one shape image log e x l)))))

-- whether or not it is taken here
sent-taken_if : (t : Bool) (lane : Lane) → sent (cond t (without_first lane) lane) ≡ sent lane
sent-taken_if true lane = sent-without_first lane
sent-taken_if false lane = refl

-- a message that is taken was sent
sent-taken : (take : Option LinkChannel) (x : ℕ) (l : Channel) (lane : Lane) → sent (taken_from take x l lane) ≡ sent lane
sent-taken None x l lane = refl
sent-taken (Some place) x l lane = sent-taken_if (is_here place.client place.channel x l) lane

-- whether or not it is sent here
sent-sent_if : (t : Bool) (lane : Lane) (message : Message) → sent (cond t (with_message lane message) lane) ≤ sent lane + 1
sent-sent_if true lane message = omega (arith, sent-with_message lane message)
sent-sent_if false lane message = omega arith

-- at most one message is sent
sent-sent : (post : Option Post) (of x : ℕ) (l : Channel) (lane : Lane) → sent (sent_to post of x l lane) ≤ sent lane + 1
sent-sent None of x l lane = omega arith
sent-sent (Some post) of x l lane =
    sent-sent_if (is_here post.client post.channel x l) lane (record { block = of; body = post.body })

-- no more are sent than there are events
counted-after :
    (shape : Shape) (image : List ℕ) (log : List Event) (e : Event) → Interleaves shape image log → (x : ℕ) (l : Channel)
    → sent (lane_of shape image (log ++ e ∷ []) x l) ≤ length (log ++ e ∷ [])
counted-after shape image log e known x l =
    let own : Block = end_of shape image log (block_of shape e) in
    let lane : Lane = lane_of shape image log x l in
    let taken : Lane = taken_from (take_of e) x l lane in
    let before : sent lane ≤ length log = known.counted x l in
    let same : sent taken ≡ sent lane = sent-taken (take_of e) x l lane in
    let more : Lane = sent_to (post_of shape own e) (block_of shape e) x l taken in
    let at_most : sent more ≤ sent taken + 1 = sent-sent (post_of shape own e) (block_of shape e) x l taken in
    let is : sent (lane_of shape image (log ++ e ∷ []) x l) ≡ sent more = ap sent (lanes_grow_by_one shape image log e x l) in
    let long : length (log ++ e ∷ []) ≡ length log + 1 = length-append log (e ∷ []) in
    omega arith

-- one more event takes the first of its channel too
takes-joined :
    (shape : Shape) (image : List ℕ) (log es : List Event) (e : Event) → TakeInOrder shape image log es
    → TakesFirst shape image (log ++ es) e → TakeInOrder shape image log (es ++ e ∷ [])
takes-joined shape image log [] e takes first =
    (subst (λ (before : List Event). TakesFirst shape image before e) (append-nil log) first, tt)
takes-joined shape image log (x ∷ es) e takes first = (
  takes.0,
  takes-joined shape image (log ++ x ∷ []) es e takes.1
      (subst (λ (before : List Event). TakesFirst shape image before e) (sym (append_assoc log (x ∷ []) es)) first),
)

-- a lawful log stays so with one more permitted event that takes the first message of its channel
pub lawful_grows_by_one : LawfulGrowsByOne
lawful_grows_by_one shape image log e lawful may takes = record {
  run = run_joined shape (at_reset shape image) log (e ∷ []) lawful.run (may, tt);
  takes = takes-joined shape image [] log e lawful.takes takes;
}

-- at reset each list is empty
empty_list :
    (image : List ℕ) (shape : Shape) (x block : ℕ) (l : Channel) → list_in ((at_reset shape image block).client x) l ≡ []
empty_list image shape x block A = refl
empty_list image shape x block B = refl
empty_list image shape x block C = refl
empty_list image shape x block D = refl
empty_list image shape x block E = refl

-- the empty log is lawful, and nothing was sent
pub empty_is_lawful : EmptyIsLawful
unfolding lane_of
empty_is_lawful shape image = (record { run = tt; takes = tt }, λ x l. refl)

-- nothing was sent at reset
none_interleaves : (shape : Shape) (image : List ℕ) → Interleaves shape image []
unfolding lane_of
none_interleaves shape image =
    record { ordered = λ x block l. empty_list image shape x block l; counted = λ x l. omega arith }

-- so it is after each further event
all_interleave :
    (shape : Shape) (image : List ℕ) (log es : List Event) → Interleaves shape image log
    → IsRunFrom shape (end_of shape image log) es → TakeInOrder shape image log es → Interleaves shape image (log ++ es)
all_interleave shape image log [] before run takes =
    subst (λ (whole : List Event). Interleaves shape image whole) (sym (append-nil log)) before
all_interleave shape image log (e ∷ es) before run takes =
    let next : Interleaves shape image (log ++ e ∷ []) =
    record {
      ordered = ordered-after shape image log e before run.0 takes.0;
      counted = counted-after shape image log e before;
    } in
    subst (λ (whole : List Event). Interleaves shape image whole) (append_assoc log (e ∷ []) es)
    (all_interleave shape image (log ++ e ∷ []) es next
    (subst (λ (t : ℕ → Block). IsRunFrom shape t es) (sym (end_of-append shape image log e)) run.1) takes.1)

-- a lawful log interleaves the lists of its blocks
pub interleaves : EveryLawfulLogInterleaves
interleaves shape image log lawful =
    all_interleave shape image [] log (none_interleaves shape image) lawful.run lawful.takes

-- the first message of a channel is the first of its block's list there
pub first_heads_its_list : FirstHeadsItsList
first_heads_its_list shape image log x l message rest lawful e =
    (interleaves shape image log lawful).ordered x message.block l
    ∙ (ap (bodies_of message.block) e ∙ bodies_of-first message.block message rest refl)

-- ## Messages of their channels

-- the message is of a kind that travels on the channel
abbrev Fits : Channel → Message → Type 0
Fits l message = channel_of (body_kind message.body) ≡ l

-- an answer to a Probe travels on C
answer_on_c : (answer : ProbeAnswer) → channel_of (answer_kind answer) ≡ C
answer_on_c (a_TtoB None) = refl
answer_on_c (a_TtoB (Some bytes)) = refl
answer_on_c (a_TtoN None) = refl
answer_on_c (a_TtoN (Some bytes)) = refl
answer_on_c a_BtoB = refl
answer_on_c a_BtoN = refl
answer_on_c a_NtoN = refl

-- a Release travels on C
release_on_c : (given : Surrender) → channel_of (surrender_kind given) ≡ C
release_on_c (s_TtoB None) = refl
release_on_c (s_TtoB (Some bytes)) = refl
release_on_c (s_TtoN None) = refl
release_on_c (s_TtoN (Some bytes)) = refl
release_on_c s_BtoN = refl

-- a Grant and a ReleaseAck travel on D
downward_on_d : (message : Downward) → channel_of (body_kind (b_Downward message)) ≡ D
downward_on_d (Grant cap None) = refl
downward_on_d (Grant cap (Some bytes)) = refl
downward_on_d ReleaseAck = refl

-- what is sent is of a kind that travels on its channel
abbrev PostFits : Option Post → Type 0
PostFits None = Unit {0}
PostFits (Some post) = channel_of (body_kind post.body) ≡ post.channel

-- what a client answers
answer_fits : (c : ℕ) (k : Client) (b : List ProbeCap) → PostFits (answer_post c k b)
answer_fits c k [] = tt
answer_fits c k (cap ∷ rest) = answer_on_c (probe_answer (perm_of k.held) cap (dirty_bytes k.held))

-- what home answers to a Release
ack_fits : (c : ℕ) (ups : List Upward) → PostFits (ack_post c ups)
ack_fits c [] = tt
ack_fits c (ProbeAck answer ∷ rest) = tt
ack_fits c (Release given ∷ rest) = refl

-- what home grants
grant_fits : (shape : Shape) (s : Block) (c : ℕ) (accepted : Option Accepted) → PostFits (grant_post shape s c accepted)
grant_fits shape s c None = tt
grant_fits shape s c (Some acquire) =
    downward_on_d (Grant (granted shape s acquire) (grant_bytes (s.client c).recorded (home_bytes s.home)))

-- what any event sends
post_fits : (shape : Shape) (s : Block) (e : Event) → PostFits (post_of shape s e)
post_fits shape s (SendAcquire c block grow) = refl
post_fits shape s (SendRelease c block prune) = release_on_c (surrender prune (dirty_bytes (s.client c).held))
post_fits shape s (AnswerProbe c block) = answer_fits c (s.client c) (s.client c).b
post_fits shape s (TakeGrant c block) = refl
post_fits shape s (SendProbe c block cap) = refl
post_fits shape s (TakeC c block) = ack_fits c (s.client c).c
post_fits shape s (SendGrant c block) = grant_fits shape s c s.accepted
post_fits shape s e = tt

-- the messages behind the first
rest_fits :
    (l : Channel) (taken : ℕ) (messages : List Message) → All (Fits l) messages
    → All (Fits l) (first_taken taken messages).messages
rest_fits l taken [] all = all
rest_fits l taken (first ∷ rest) all = All-drop (Fits l) 1 (first ∷ rest) all

-- whether or not something is taken here
taken_fits_if :
    (t : Bool) (l : Channel) (lane : Lane) → All (Fits l) lane.messages
    → All (Fits l) (cond t (without_first lane) lane).messages
taken_fits_if true l lane all = rest_fits l lane.taken lane.messages all
taken_fits_if false l lane all = all

-- what waits after something is taken
taken_fits :
    (take : Option LinkChannel) (x : ℕ) (l : Channel) (lane : Lane) → All (Fits l) lane.messages
    → All (Fits l) (taken_from take x l lane).messages
taken_fits None x l lane all = all
taken_fits (Some place) x l lane all = taken_fits_if (is_here place.client place.channel x l) l lane all

-- whether or not something is sent here
sent_fits_if :
    (t : Bool) (l : Channel) (lane : Lane) (message : Message) → (t ≡ true → Fits l message) → All (Fits l) lane.messages
    → All (Fits l) (cond t (with_message lane message) lane).messages
sent_fits_if true l lane message fits all =
    All-append (Fits l) lane.messages (message ∷ []) all (All-cons (Fits l) message [] (fits refl) (All-nil (Fits l)))
sent_fits_if false l lane message fits all = all

-- what waits after something is sent
sent_fits :
    (post : Option Post) (of x : ℕ) (l : Channel) (lane : Lane) → PostFits post → All (Fits l) lane.messages
    → All (Fits l) (sent_to post of x l lane).messages
sent_fits None of x l lane fits all = all
sent_fits (Some post) of x l lane fits all =
    sent_fits_if (is_here post.client post.channel x l) l lane (record { block = of; body = post.body })
    (λ h. fits ∙ sym (is_here-true post.client post.channel x l h).1) all

-- what waits after any events
lane_fits :
    (shape : Shape) (s : ℕ → Block) (x : ℕ) (l : Channel) (lane : Lane) (log : List Event) → All (Fits l) lane.messages
    → All (Fits l) (lane_from shape s x l lane log).messages
lane_fits shape s x l lane [] all = all
lane_fits shape s x l lane (e ∷ es) all =
    let own : Block = s (block_of shape e) in
    lane_fits shape (after_next shape s e) x l (lane_after shape own e x l lane) es
    (sent_fits (post_of shape own e) (block_of shape e) x l (taken_from (take_of e) x l lane) (post_fits shape own e)
    (taken_fits (take_of e) x l lane all))

-- each message that waits is of a kind that travels on its channel
pub messages_fit_their_channels : MessagesFitTheirChannels
unfolding lane_of
messages_fit_their_channels shape image log x l = lane_fits shape (at_reset shape image) x l empty_lane log (All-nil (Fits l))
