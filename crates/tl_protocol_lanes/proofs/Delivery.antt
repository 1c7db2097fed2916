-- What is sent on a channel is what is taken there and then what waits.
use Rattle.std.proofs.Common.{◌≡◌, ℕ, ◌+◌, Bool, true, false, cond, List, [], ◌∷◌, ◌++◌, length, take, Option, Some, None, if◌then◌else◌, refl, sym, ap, ◌∙◌, subst, arith, append_assoc, length-append}
use Rattle.std.proofs.lemmas.List.{append-nil}
use Rattle.tl_types.specs.Lane.{Lane, empty_lane, is_here, with_message, first_taken, without_first, bodies_of, IsFirst}
use Rattle.tl_types.specs.declared.channel.Channel.{Channel}
use Rattle.tl_types.specs.declared.message.Body.{Body}
use Rattle.tl_types.specs.declared.message.Message.{Message}
use Rattle.tl_protocol.specs.declared.event.Event.{Event}
use Rattle.tl_protocol.specs.declared.shape.Shape.{Shape}
use Rattle.tl_protocol.specs.Protocol.{Block, block_of}
use Rattle.tl_protocol.specs.Runs.{IsRunFrom, at_reset, after_next, end_of}
use Rattle.tl_protocol_lanes.specs.Lanes.{Post, LinkChannel, post_of, take_of, taken_from, sent_to, lane_after, lane_from, lane_of}
use Rattle.tl_protocol_lanes.specs.Lawful.{Lawful, TakeInOrder}
use Rattle.tl_protocol_lanes.specs.Lists.{list_in}
use Rattle.tl_protocol_lanes.specs.Delivery.{first_as, message_sent, message_taken, sent_from, taken_along, EveryMessageIsDeliveredInOrder}
use Rattle.tl_protocol_lanes.proofs.Logs.{FirstIf, first_if, end_of-append, lanes_grow_by_one, lawful_grows_by_one, empty_is_lawful, interleaves}
use Rattle.tl_types.proofs.Lanes.{bodies_of-first}

-- ## What is taken from a lane

-- what is taken there of a lane, if something is: its first message
abbrev lane_taken : Option LinkChannel → ℕ → Channel → Lane → List Message
lane_taken None x l lane = []
lane_taken (Some place) x l lane = if is_here place.client place.channel x l then take 1 lane.messages else []

-- what these events take there of a lane, from a state on
abbrev along_lane : Shape → (ℕ → Block) → ℕ → Channel → Lane → List Event → List Message
along_lane shape s x l lane [] = []
along_lane shape s x l lane (e ∷ es) =
    lane_taken (take_of e) x l lane
    ++ along_lane shape (after_next shape s e) x l (lane_after shape (s (block_of shape e)) e x l lane) es

-- ## One event

-- the first message and those behind it
first_split : (taken : ℕ) (messages : List Message) → messages ≡ take 1 messages ++ (first_taken taken messages).messages
first_split taken [] = refl
first_split taken (first ∷ rest) = refl

-- the count of taken messages rises with each
first_counted : (taken : ℕ) (messages : List Message) → (first_taken taken messages).taken ≡ taken + length (take 1 messages)
first_counted taken [] = omega arith
first_counted taken (first ∷ rest) = omega arith

-- whether or not a message is taken here
taken_if :
    (t : Bool) (lane : Lane)
    → (lane.messages ≡ cond t (take 1 lane.messages) [] ++ (cond t (without_first lane) lane).messages)
    × ((cond t (without_first lane) lane).taken ≡ lane.taken + length (cond t (take 1 lane.messages) []))
taken_if true lane = (first_split lane.taken lane.messages, first_counted lane.taken lane.messages)
taken_if false lane = (refl, omega arith)

-- what is taken was first
taken_split :
    (place : Option LinkChannel) (x : ℕ) (l : Channel) (lane : Lane)
    → (lane.messages ≡ lane_taken place x l lane ++ (taken_from place x l lane).messages)
    × ((taken_from place x l lane).taken ≡ lane.taken + length (lane_taken place x l lane))
taken_split None x l lane = (refl, omega arith)
taken_split (Some place) x l lane = taken_if (is_here place.client place.channel x l) lane

-- whether or not a message is sent here
sent_if :
    (t : Bool) (lane : Lane) (message : Message)
    → ((cond t (with_message lane message) lane).messages ≡ lane.messages ++ cond t (message ∷ []) [])
    × ((cond t (with_message lane message) lane).taken ≡ lane.taken)
sent_if true lane message = (refl, refl)
sent_if false lane message = (sym (append-nil lane.messages), refl)

-- what is sent is last
sent_split :
    (post : Option Post) (block x : ℕ) (l : Channel) (lane : Lane)
    → ((sent_to post block x l lane).messages ≡ lane.messages ++ message_sent post block x l)
    × ((sent_to post block x l lane).taken ≡ lane.taken)
sent_split None block x l lane = (sym (append-nil lane.messages), refl)
sent_split (Some post) block x l lane =
    sent_if (is_here post.client post.channel x l) lane (record { block = block; body = post.body })

-- ## Any events

-- what waits and what is sent later is what is taken later and what waits then
in_order :
    (shape : Shape) (s : ℕ → Block) (x : ℕ) (l : Channel) (lane : Lane) (es : List Event)
    → lane.messages ++ sent_from shape s x l es ≡ along_lane shape s x l lane es ++ (lane_from shape s x l lane es).messages
in_order shape s x l lane [] = append-nil lane.messages
in_order shape s x l lane (e ∷ es) =
    let block : ℕ = block_of shape e in
    let posted : List Message = message_sent (post_of shape (s block) e) block x l in
    let took : List Message = lane_taken (take_of e) x l lane in
    let shorter : Lane = taken_from (take_of e) x l lane in
    let after : Lane = lane_after shape (s block) e x l lane in
    let more : List Message = sent_from shape (after_next shape s e) x l es in
    let last : List Message = (lane_from shape (after_next shape s e) x l after es).messages in
    ap (λ (front : List Message). front ++ (posted ++ more)) (taken_split (take_of e) x l lane).0
    ∙ (append_assoc took shorter.messages (posted ++ more)
    ∙ (ap (λ (back : List Message). took ++ back)
    (sym (append_assoc shorter.messages posted more)
    ∙ (ap (λ (front : List Message). front ++ more) (sym (sent_split (post_of shape (s block) e) block x l shorter).0)
    ∙ in_order shape (after_next shape s e) x l after es))
    ∙ sym (append_assoc took (along_lane shape (after_next shape s e) x l after es) last)))

-- the lane counts what is taken
counted :
    (shape : Shape) (s : ℕ → Block) (x : ℕ) (l : Channel) (lane : Lane) (es : List Event)
    → lane.taken + length (along_lane shape s x l lane es) ≡ (lane_from shape s x l lane es).taken
counted shape s x l lane [] = omega arith
counted shape s x l lane (e ∷ es) =
    let block : ℕ = block_of shape e in
    let took : List Message = lane_taken (take_of e) x l lane in
    let shorter : Lane = taken_from (take_of e) x l lane in
    let after : Lane = lane_after shape (s block) e x l lane in
    let rest : List Message = along_lane shape (after_next shape s e) x l after es in
    let both : length (took ++ rest) ≡ length took + length rest = length-append took rest in
    let first : shorter.taken ≡ lane.taken + length took = (taken_split (take_of e) x l lane).1 in
    let same : after.taken ≡ shorter.taken = (sent_split (post_of shape (s block) e) block x l shorter).1 in
    let later : after.taken + length rest ≡ (lane_from shape (after_next shape s e) x l after es).taken =
    counted shape (after_next shape s e) x l after es in
    omega arith

-- ## From each block's own list

-- the first of a block's messages in a lane that begins with one of them is the lane's first
first-same :
    (block : ℕ) (messages : List Message) → IsFirst block messages → first_as block (bodies_of block messages) ≡ take 1 messages
first-same block [] first = absurd first
first-same block (m ∷ rest) first =
    ap (first_as block) (bodies_of-first block m rest first)
    ∙ ap (λ (b : ℕ). record { block = b; body = m.body } ∷ []) (sym first)

-- whether or not something is taken here
same_if :
    (t : Bool) (block : ℕ) (lane : Lane) (bodies : List Body) → (t ≡ true → IsFirst block lane.messages)
    → bodies ≡ bodies_of block lane.messages → cond t (first_as block bodies) [] ≡ cond t (take 1 lane.messages) []
same_if true block lane bodies first is = ap (first_as block) is ∙ first-same block lane.messages (first refl)
same_if false block lane bodies first is = refl

-- what an event takes of its block's list is what it takes of the lane
taken-same :
    (shape : Shape) (image : List ℕ) (log : List Event) (place : Option LinkChannel) (block x : ℕ) (l : Channel) → Lawful shape image log
    → FirstIf place block x l (lane_of shape image log x l)
    → message_taken place (end_of shape image log block) block x l ≡ lane_taken place x l (lane_of shape image log x l)
taken-same shape image log None block x l lawful first = refl
taken-same shape image log (Some place) block x l lawful first =
    same_if (is_here place.client place.channel x l) block (lane_of shape image log x l)
    (list_in ((end_of shape image log block).client x) l) first
    ((interleaves shape image log lawful).ordered x block l)

-- so it is with all events after a lawful log
all-same :
    (shape : Shape) (image : List ℕ) (log es : List Event) (x : ℕ) (l : Channel) → Lawful shape image log
    → IsRunFrom shape (end_of shape image log) es → TakeInOrder shape image log es
    → taken_along shape (end_of shape image log) x l es
    ≡ along_lane shape (end_of shape image log) x l (lane_of shape image log x l) es
all-same shape image log [] x l lawful run takes = refl
all-same shape image log (e ∷ es) x l lawful run takes =
    let block : ℕ = block_of shape e in
    let s : ℕ → Block = end_of shape image log in
    let grown : Lawful shape image (log ++ e ∷ []) = lawful_grows_by_one shape image log e lawful run.0 takes.0 in
    let is : end_of shape image (log ++ e ∷ []) ≡ after_next shape s e = end_of-append shape image log e in
    let rest : taken_along shape (after_next shape s e) x l es
    ≡ along_lane shape (after_next shape s e) x l (lane_of shape image (log ++ e ∷ []) x l) es =
    subst
    (λ (t : ℕ → Block). taken_along shape t x l es ≡ along_lane shape t x l (lane_of shape image (log ++ e ∷ []) x l) es) is
    (all-same shape image (log ++ e ∷ []) es x l grown (subst (λ (t : ℕ → Block). IsRunFrom shape t es) (sym is) run.1) takes.1) in
    ap (λ (front : List Message). front ++ taken_along shape (after_next shape s e) x l es)
    (taken-same shape image log (take_of e) block x l lawful (first_if shape image log (take_of e) block x l takes.0))
    ∙ ap (λ (back : List Message). lane_taken (take_of e) x l (lane_of shape image log x l) ++ back)
    (rest
    ∙ ap (λ (lane : Lane). along_lane shape (after_next shape s e) x l lane es) (lanes_grow_by_one shape image log e x l))

-- ## A lawful log

-- the messages that a log takes are those that it takes of the lane
all_taken-is :
    (shape : Shape) (image : List ℕ) (log : List Event) (x : ℕ) (l : Channel) → Lawful shape image log
    → taken_along shape (at_reset shape image) x l log ≡ along_lane shape (at_reset shape image) x l empty_lane log
all_taken-is shape image log x l lawful =
    let none = empty_is_lawful shape image in
    all-same shape image [] log x l none.0 lawful.run lawful.takes
    ∙ ap (λ (lane : Lane). along_lane shape (at_reset shape image) x l lane log) (none.1 x l)

-- each message is taken once, and in the order of sending
pub every_message_is_delivered_in_order : EveryMessageIsDeliveredInOrder
unfolding lane_of
every_message_is_delivered_in_order shape image log x l lawful =
    let all : List Message = along_lane shape (at_reset shape image) x l empty_lane log in
    let is = all_taken-is shape image log x l lawful in
    let count : 0 + length all ≡ (lane_from shape (at_reset shape image) x l empty_lane log).taken =
    counted shape (at_reset shape image) x l empty_lane log in
    let none : length all ≡ 0 + length all = omega arith in (
      in_order shape (at_reset shape image) x l empty_lane log
          ∙ ap (λ (front : List Message). front ++ (lane_from shape (at_reset shape image) x l empty_lane log).messages) (sym is),
      ap length is ∙ (none ∙ count),
    )
