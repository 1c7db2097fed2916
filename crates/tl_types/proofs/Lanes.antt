-- What a lane and a block's list in it are after a message is sent, and after the first is taken.
use Rattle.std.proofs.Common.{◌≡◌, ℕ, ◌+◌, ◌==◌, Bool, true, false, List, [], ◌∷◌, ◌++◌, length, drop, if◌then◌else◌, refl, ◌∙◌, arith, length-append, eqb-true, eq-eqb}
use Rattle.std.proofs.lemmas.List.{append-nil}
use Rattle.std.proofs.lemmas.Bool.{and_parts}
use Rattle.tl_types.specs.Channel.{channel_index, same_channel}
use Rattle.tl_types.specs.Lane.{Lane, sent, is_here, with_message, first_taken, without_first, bodies_of, IsFirst}
use Rattle.tl_types.specs.declared.channel.Channel.{Channel}
use Rattle.tl_types.specs.declared.channel.Channel.TheVariants.{A, B, C, D, E}
use Rattle.tl_types.specs.declared.message.Body.{Body}
use Rattle.tl_types.specs.declared.message.Message.{Message}

-- ## Places

-- channels of one place are one channel
pub same_channel-true : (k l : Channel) → same_channel k l ≡ true → k ≡ l
same_channel-true A A h = refl
same_channel-true A B h = cc
same_channel-true A C h = cc
same_channel-true A D h = cc
same_channel-true A E h = cc
same_channel-true B A h = cc
same_channel-true B B h = refl
same_channel-true B C h = cc
same_channel-true B D h = cc
same_channel-true B E h = cc
same_channel-true C A h = cc
same_channel-true C B h = cc
same_channel-true C C h = refl
same_channel-true C D h = cc
same_channel-true C E h = cc
same_channel-true D A h = cc
same_channel-true D B h = cc
same_channel-true D C h = cc
same_channel-true D D h = refl
same_channel-true D E h = cc
same_channel-true E A h = cc
same_channel-true E B h = cc
same_channel-true E C h = cc
same_channel-true E D h = cc
same_channel-true E E h = refl

-- a channel is the same as itself
pub same_channel-self : (k : Channel) → same_channel k k ≡ true
same_channel-self k = eq-eqb (channel_index k) (channel_index k) refl

-- what is here is this client and this channel
pub is_here-true : (client : ℕ) (channel : Channel) (x : ℕ) (l : Channel) → is_here client channel x l ≡ true
    → (x ≡ client) × (l ≡ channel)
is_here-true client channel x l h =
    let both = and_parts (x == client) (same_channel l channel) h in
    (eqb-true x client both.0, same_channel-true l channel both.1)

-- and this client and this channel are here
pub is_here-self : (client : ℕ) (channel : Channel) → is_here client channel client channel ≡ true
is_here-self client channel =
    let one : (client == client) ≡ true = eq-eqb client client refl in
    rw (one, same_channel-self channel) refl

-- ## How many were sent

-- one more message is one more that was sent
pub sent-with_message : (lane : Lane) (message : Message) → sent (with_message lane message) ≡ sent lane + 1
sent-with_message lane message = omega (arith, length-append lane.messages (message ∷ []))

-- once the first is taken, as many were sent as were taken and waited before it was
sent-first_taken : (taken : ℕ) (messages : List Message) → sent (first_taken taken messages) ≡ taken + length messages
sent-first_taken taken [] = refl
sent-first_taken taken (first ∷ rest) = omega arith

-- taking a message sends none
pub sent-without_first : (lane : Lane) → sent (without_first lane) ≡ sent lane
sent-without_first lane = sent-first_taken lane.taken lane.messages

-- ## A block's list

-- what is put behind a list stands behind it with a message in front, or with none
if_append : (here : Bool) (x : Body) (front back : List Body)
    → (if here then x ∷ (front ++ back) else front ++ back) ≡ (if here then x ∷ front else front) ++ back
if_append true x front back = refl
if_append false x front back = refl

-- a list with one more message
pub bodies_of-append : (block : ℕ) (messages : List Message) (message : Message)
    → bodies_of block (messages ++ message ∷ []) ≡ bodies_of block messages ++ (if message.block == block then message.body ∷ [] else [])
bodies_of-append block [] message = refl
bodies_of-append block (x ∷ rest) message =
    rw (bodies_of-append block rest message)
    (if_append (x.block == block) x.body (bodies_of block rest) (if message.block == block then message.body ∷ [] else []))

-- a message of the block goes last, and one of another adds none
if_joined : (here : Bool) (bodies : List Body) (body : Body)
    → bodies ++ (if here then body ∷ [] else []) ≡ (if here then bodies ++ body ∷ [] else bodies)
if_joined true bodies body = refl
if_joined false bodies body = append-nil bodies

-- a message that is sent goes last in its block's list, and in no other
pub bodies_of-with_message : (block : ℕ) (lane : Lane) (message : Message)
    → bodies_of block (with_message lane message).messages
    ≡ (if message.block == block then bodies_of block lane.messages ++ message.body ∷ [] else bodies_of block lane.messages)
bodies_of-with_message block lane message =
    bodies_of-append block lane.messages message ∙ if_joined (message.block == block) (bodies_of block lane.messages) message.body

-- the rest's list is the block's without its first where the first message is of the block, and else the whole
if_dropped : (here : Bool) (x : Body) (rest : List Body)
    → rest ≡ (if here then drop 1 (if here then x ∷ rest else rest) else (if here then x ∷ rest else rest))
if_dropped true x rest = refl
if_dropped false x rest = refl

-- where the first message is taken its block's list loses its first, and no other list changes
bodies_of-first_taken : (block of taken : ℕ) (messages : List Message) → IsFirst of messages
    → bodies_of block (first_taken taken messages).messages ≡ (if of == block then drop 1 (bodies_of block messages) else bodies_of block messages)
bodies_of-first_taken block of taken [] first = absurd first
bodies_of-first_taken block of taken (x ∷ rest) first = rw (← first) (if_dropped (x.block == block) x.body (bodies_of block rest))

-- the first message that is taken is the first of its block's list, and of no other
pub bodies_of-without_first : (block of : ℕ) (lane : Lane) → IsFirst of lane.messages
    → bodies_of block (without_first lane).messages
    ≡ (if of == block then drop 1 (bodies_of block lane.messages) else bodies_of block lane.messages)
bodies_of-without_first block of lane first = bodies_of-first_taken block of lane.taken lane.messages first

-- the first message heads its block's list
pub bodies_of-first : (block : ℕ) (x : Message) (rest : List Message) → x.block ≡ block
    → bodies_of block (x ∷ rest) ≡ x.body ∷ bodies_of block rest
bodies_of-first block x rest same =
    let here : (x.block == block) ≡ true = eq-eqb x.block block same in
    rw here refl
