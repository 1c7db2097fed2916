-- What the judge's state says of an entry is what the log says that it follows.
use Rattle.std.proofs.Common.{◌≡◌, ◌≢◌, ◌<◌, ◌≤◌, ◌↔◌, ℕ, zero, suc, Bool, true, false, cond, List, [], ◌∷◌, ◌++◌, map, drop, Option, Some, None, IfSome, IsSome, refl, sym, ◌∙◌, ap, subst, arith, inl, inr, eq-eqb, append_assoc}
use Rattle.std.specs.Option.{option_map}
use Rattle.std.proofs.lemmas.List.{append-nil}
use Rattle.std.proofs.lemmas.Bool.{cases_eq, cases_lt, ne_eqb}
use Rattle.tl_types.specs.Lane.{Lane, is_here, with_message, without_first, first_taken, IsFirst}
use Rattle.tl_types.specs.declared.channel.Channel.{Channel}
use Rattle.tl_types.specs.declared.channel.Channel.TheVariants.{A, B, C, D, E}
use Rattle.tl_types.specs.declared.message.Body.{Body}
use Rattle.tl_types.specs.declared.message.Message.{Message}
use Rattle.tl_protocol.specs.declared.event.Event.{Event}
use Rattle.tl_protocol.specs.declared.event.Event.TheVariants.{Load, Store, SendAcquire, SendRelease, AnswerProbe, TakeGrant, TakeReleaseAck, AcceptAcquire, SendProbe, TakeC, SendGrant, TakeGrantAck, SendGet, Serve, TakeData, Drop, SendPut, TakePutAck}
use Rattle.tl_protocol.specs.declared.shape.Shape.{Shape}
use Rattle.tl_protocol.specs.Protocol.{Block, May, MayOn, after, block_of}
use Rattle.tl_protocol.specs.Runs.{IsRun, MayNext, after_next, end_of}
use Rattle.tl_protocol.proofs.Runs.{runs_grow_by_one}
use Rattle.tl_protocol_lanes.specs.Lanes.{LinkChannel, Post, lane_of, lane_after, post_of, sent_to, take_of, taken_from}
use Rattle.tl_protocol_lanes.specs.Lawful.{IsNext, Lawful}
use Rattle.tl_protocol_lanes.proofs.Logs.{empty_is_lawful, lanes_grow_by_one, lawful_grows_by_one}
use Rattle.tl_rules.specs.Plain.{IsReset, state_of_plain}
use Rattle.tlcheck_rules.specs.declared.difference.Difference.{Difference}
use Rattle.tlcheck_rules.specs.declared.difference.Difference.TheVariants.{NothingIsSent, OtherMessage, OtherParam, DataIsMissing, DataIsExtra, OtherBytes}
use Rattle.tlcheck_rules.specs.declared.entry.Entry.{Entry}
use Rattle.tlcheck_rules.specs.declared.entry.Shown.{Shown}
use Rattle.tlcheck_rules.specs.declared.judge.Breach.{Breach}
use Rattle.tlcheck_rules.specs.declared.judge.Breach.TheVariants.{NotPermitted, OutOfOrder, NotAsShown}
use Rattle.tlcheck_rules.specs.declared.order.ChannelOrder.{ChannelOrder}
use Rattle.tlcheck_rules.specs.declared.order.ChannelOrder.TheVariants.{Whole, EachBlock}
use Rattle.tlcheck_rules.specs.declared.rule.Rule.{Rule}
use Rattle.tlcheck_rules.specs.declared.rule.Rule.TheVariants.{BlockIsThere}
use Rattle.tlcheck_rules.specs.Judged.{Allows, Breaks, Carries, EveryLawfulRecordIsALawfulLog, EveryLawfulRecordIsARun, EveryRecordInOrderIsLawful, Follows, NoBrokenEntryIsPermitted, IsLawfulAfter, IsPermitted, IsShown, JudgeState, Rejects, events_of, own_block, post_after}
use Rattle.tlcheck_rules.specs.Differs.{Differs, DiffersFrom, IsMessage, bare_of, name_of}
use Rattle.tlcheck_rules.specs.Order.{Asks, HeadIs, IsNextIn, joined, place_at, post_at, removed, waiting_in}
use Rattle.tlcheck_rules.specs.Rules.{IsFirstBroken, Keeps, KeepsBefore, client_of, rule_at}
use Rattle.tlcheck_rules.proofs.Rules.{block_first, no_block, not_permitted}

-- ## Lanes and their blocks

-- the block of a message
abbrev pub block_in : Message → ℕ
block_in message = message.block

-- the first block is that of the first message
pub head_is : (b : ℕ) (messages : List Message) → HeadIs b (map block_in messages) ↔ IsFirst b messages
head_is b [] = ((λ h. h), λ h. h)
head_is b (m ∷ rest) = ((λ h. h), λ h. h)

-- the first message leaves, and its block
front : (n : ℕ) (messages : List Message) → map block_in (first_taken n messages).messages ≡ drop 1 (map block_in messages)
front n [] = refl
front n (m ∷ rest) = refl

-- the blocks that wait after something is taken
without : (t : Bool) (lane : Lane) → map block_in (cond t (without_first lane) lane).messages ≡ cond t (drop 1 (map block_in lane.messages)) (map block_in lane.messages)
without false lane = refl
without true lane = front lane.taken lane.messages

pub map_taken : (p : Option LinkChannel) (x : ℕ) (l : Channel) (lane : Lane) → map block_in (taken_from p x l lane).messages ≡ removed p x l (map block_in lane.messages)
map_taken None x l lane = refl
map_taken (Some p) x l lane = without (is_here p.client p.channel x l) lane

-- one more message, and its block
map_last : (messages : List Message) (m : Message) → map block_in (messages ++ m ∷ []) ≡ map block_in messages ++ m.block ∷ []
map_last [] m = refl
map_last (x ∷ rest) m = ap (λ (bs : List ℕ). x.block ∷ bs) (map_last rest m)

-- the blocks that wait after a message is sent
with_one : (t : Bool) (lane : Lane) (m : Message) → map block_in (cond t (with_message lane m) lane).messages ≡ cond t (map block_in lane.messages ++ m.block ∷ []) (map block_in lane.messages)
with_one false lane m = refl
with_one true lane m = map_last lane.messages m

pub map_sent : (p : Option Post) (b x : ℕ) (l : Channel) (lane : Lane) → map block_in (sent_to p b x l lane).messages ≡ joined p b x l (map block_in lane.messages)
map_sent None b x l lane = refl
map_sent (Some p) b x l lane = with_one (is_here p.client p.channel x l) lane (record { block = b; body = p.body })

-- and after an event
pub map_lane : (shape : Shape) (s : Block) (e : Event) (x : ℕ) (l : Channel) (lane : Lane)
    → map block_in (lane_after shape s e x l lane).messages ≡ joined (post_of shape s e) (block_of shape e) x l (removed (take_of e) x l (map block_in lane.messages))
map_lane shape s e x l lane =
    map_sent (post_of shape s e) (block_of shape e) x l (taken_from (take_of e) x l lane)
    ∙ ap (λ (bs : List ℕ). joined (post_of shape s e) (block_of shape e) x l bs) (map_taken (take_of e) x l lane)

-- ## The client of an event

-- an event that takes from a channel is of a client that is there
pub taker_is_there : (shape : Shape) (s : Block) (e : Event) (place : LinkChannel) → MayOn shape s e → Some place ≡ take_of e → client_of e < shape.clients
taker_is_there shape s (Load access) place m same = m.0
taker_is_there shape s (Store access) place m same = m.0
taker_is_there shape s (SendAcquire c block grow) place m same = m.0
taker_is_there shape s (SendRelease c block prune) place m same = m.0
taker_is_there shape s (AnswerProbe c block) place m same = m.0
taker_is_there shape s (TakeGrant c block) place m same = m.0
taker_is_there shape s (TakeReleaseAck c block) place m same = m.0
taker_is_there shape s (AcceptAcquire c block) place m same = m.0
taker_is_there shape s (SendProbe c block asked) place m same = m.0
taker_is_there shape s (TakeC c block) place m same = m.0
taker_is_there shape s (SendGrant c block) place m same = m.0
taker_is_there shape s (TakeGrantAck c block) place m same = m.0
taker_is_there shape s (SendGet block) place m same = cc
taker_is_there shape s (Serve block) place m same = cc
taker_is_there shape s (TakeData block) place m same = cc
taker_is_there shape s (Drop block) place m same = cc
taker_is_there shape s (SendPut block) place m same = cc
taker_is_there shape s (TakePutAck block) place m same = cc

-- an event that sends a message is of a client that is there
pub sender_is_there : (shape : Shape) (s : Block) (e : Event) (post : Post) → MayOn shape s e → Some post ≡ post_of shape s e → client_of e < shape.clients
sender_is_there shape s (Load access) post m same = m.0
sender_is_there shape s (Store access) post m same = m.0
sender_is_there shape s (SendAcquire c block grow) post m same = m.0
sender_is_there shape s (SendRelease c block prune) post m same = m.0
sender_is_there shape s (AnswerProbe c block) post m same = m.0
sender_is_there shape s (TakeGrant c block) post m same = m.0
sender_is_there shape s (TakeReleaseAck c block) post m same = m.0
sender_is_there shape s (AcceptAcquire c block) post m same = m.0
sender_is_there shape s (SendProbe c block asked) post m same = m.0
sender_is_there shape s (TakeC c block) post m same = m.0
sender_is_there shape s (SendGrant c block) post m same = m.0
sender_is_there shape s (TakeGrantAck c block) post m same = m.0
sender_is_there shape s (SendGet block) post m same = cc
sender_is_there shape s (Serve block) post m same = cc
sender_is_there shape s (TakeData block) post m same = cc
sender_is_there shape s (Drop block) post m same = cc
sender_is_there shape s (SendPut block) post m same = cc
sender_is_there shape s (TakePutAck block) post m same = cc

-- so the client of a channel that is taken from is there
pub taken_is_there : (shape : Shape) (s : Block) (e : Event) (k : Option Channel) (c n : ℕ) → c ≡ client_of e → n ≡ shape.clients → MayOn shape s e
    → option_map (place_at (client_of e)) k ≡ take_of e → IfSome k (λ channel. c < n)
taken_is_there shape s e None c n own size m taken = tt
taken_is_there shape s e (Some channel) c n own size m taken = omega (arith, own, size, taker_is_there shape s e (place_at (client_of e) channel) m taken)

-- and so is that of a message that is sent
pub sent_is_there : (shape : Shape) (s : Block) (e : Event) (sent : Option (Channel × Body)) (c n : ℕ) → c ≡ client_of e → n ≡ shape.clients → MayOn shape s e
    → option_map (λ (m : Channel × Body). post_at (client_of e) m.0 m.1) sent ≡ post_of shape s e → IfSome sent (λ m. c < n)
sent_is_there shape s e None c n own size m same = tt
sent_is_there shape s e (Some message) c n own size m same =
    omega (arith, own, size, sender_is_there shape s e (post_at (client_of e) message.0 message.1) m same)

-- ## The judge and its log

-- on its own block an event leaves what it does to that block
own_next : (shape : Shape) (s : ℕ → Block) (e : Event) → after_next shape s e (block_of shape e) ≡ after shape (s (block_of shape e)) e
own_next shape s e =
    ap (λ (t : Bool). cond t (after shape (s (block_of shape e)) e) (s (block_of shape e)))
    (eq-eqb (block_of shape e) (block_of shape e) refl)

-- an event leaves the other blocks
other_next : (shape : Shape) (s : ℕ → Block) (e : Event) (block : ℕ) → block ≢ block_of shape e → after_next shape s e block ≡ s block
other_next shape s e block other =
    ap (λ (t : Bool). cond t (after shape (s block) e) (s block)) (ne_eqb block (block_of shape e) other)

-- a rule that is broken first where the block is not there is that it is there
first_place : (shape : Shape) (t : Block) (e : Event) (rule : Rule) → shape.blocks ≤ block_of shape e → (i : ℕ) → rule_at e i ≡ rule → KeepsBefore shape t e i → BlockIsThere ≡ rule
first_place shape t e rule ge zero at before = sym (block_first e).1 ∙ at
first_place shape t e rule ge (suc i) at before =
    let lt : Keeps shape t e BlockIsThere = subst (λ (r : Rule). Keeps shape t e r) (block_first e).1 (before 0 (omega arith)) in absurd (omega (arith, ge, lt))

-- an event of a block that is not there breaks the first rule
is_block : (shape : Shape) (t : Block) (e : Event) (rule : Rule) → shape.blocks ≤ block_of shape e → IsFirstBroken shape t e (Some rule) → BlockIsThere ≡ rule
is_block shape t e rule ge f = first_place shape t e rule ge f.0 f.2 f.4

-- a first broken rule is one of another state, where that is the same if the block is there
moved : (shape : Shape) (s t : Block) (e : Event) (rule : Rule) → (block_of shape e < shape.blocks → t ≡ s)
    → IsFirstBroken shape t e (Some rule) → IsFirstBroken shape s e (Some rule)
moved shape s t e rule same f = elim (cases_lt (block_of shape e) shape.blocks) [
  | inl lt ↦ subst (λ (b : Block). IsFirstBroken shape b e (Some rule)) (same lt) f
  | inr ge ↦ subst (λ (r : Rule). IsFirstBroken shape s e (Some r)) (is_block shape t e rule ge f) (no_block shape s e ge)
]

-- an order asks for what is the same
asks_same : (order : ChannelOrder) (P Q : Type 0) → P ↔ Q → Asks order P ↔ Asks order Q
asks_same Whole P Q same = same
asks_same EachBlock P Q same = ((λ h. tt), λ h. tt)

module _ (image : List ℕ) (log : List Event) (j : JudgeState) (f : Follows j.order j.plain.shape image log j) where
  -- where the log leads, on the block of an event
  abbrev pub there : Event → Block
  there e = end_of j.plain.shape image log (block_of j.plain.shape e)

  pub same_block : (e : Event) → block_of j.plain.shape e < j.plain.shape.blocks → there e ≡ own_block j e
  same_block e lt = f.ended (block_of j.plain.shape e) lt

  -- the first block of a channel is that of its first message
  head : (x : ℕ) (l : Channel) (b : ℕ) → x < j.plain.shape.clients
      → HeadIs b (waiting_in j.waiting x l) ↔ IsFirst b (lane_of j.plain.shape image log x l).messages
  head x l b lt = subst (λ (bs : List ℕ). HeadIs b bs ↔ IsFirst b (lane_of j.plain.shape image log x l).messages) (sym (f.waits x l lt)) (head_is b (lane_of j.plain.shape image log x l).messages)

  -- an event that may come next takes the first message of its channel, as the judge says and as the log says
  next_is : (s : Block) (b : ℕ) (e : Event) → MayOn j.plain.shape s e → IsNextIn j.waiting b (take_of e) ↔ IsNext j.plain.shape image log b (take_of e)
  next_is s b (Load access) m = ((λ h. tt), λ h. tt)
  next_is s b (Store access) m = ((λ h. tt), λ h. tt)
  next_is s b (SendAcquire c block grow) m = ((λ h. tt), λ h. tt)
  next_is s b (SendRelease c block prune) m = ((λ h. tt), λ h. tt)
  next_is s b (AnswerProbe c block) m = head c B b m.0
  next_is s b (TakeGrant c block) m = head c D b m.0
  next_is s b (TakeReleaseAck c block) m = head c D b m.0
  next_is s b (AcceptAcquire c block) m = head c A b m.0
  next_is s b (SendProbe c block asked) m = ((λ h. tt), λ h. tt)
  next_is s b (TakeC c block) m = head c C b m.0
  next_is s b (SendGrant c block) m = ((λ h. tt), λ h. tt)
  next_is s b (TakeGrantAck c block) m = head c E b m.0
  next_is s b (SendGet block) m = ((λ h. tt), λ h. tt)
  next_is s b (Serve block) m = ((λ h. tt), λ h. tt)
  next_is s b (TakeData block) m = ((λ h. tt), λ h. tt)
  next_is s b (Drop block) m = ((λ h. tt), λ h. tt)
  next_is s b (SendPut block) m = ((λ h. tt), λ h. tt)
  next_is s b (TakePutAck block) m = ((λ h. tt), λ h. tt)

  -- and so it does in the order that is asked for
  asked_is : (s : Block) (b : ℕ) (e : Event) → MayOn j.plain.shape s e
      → Asks j.order (IsNextIn j.waiting b (take_of e)) ↔ Asks j.order (IsNext j.plain.shape image log b (take_of e))
  asked_is s b e m = asks_same j.order (IsNextIn j.waiting b (take_of e)) (IsNext j.plain.shape image log b (take_of e)) (next_is s b e m)

  -- an entry that the judge allows is permitted
  pub allowed : (entry : Entry) → Allows j entry → IsPermitted j.order j.plain.shape image log entry
  allowed entry a =
      let same : there entry.event ≡ own_block j entry.event = same_block entry.event a.may.0 in
      record {
        may = subst (λ (b : Block). May j.plain.shape b entry.event) (sym same) a.may;
        first = (asked_is (own_block j entry.event) (block_of j.plain.shape entry.event) entry.event a.may.1).0 a.first;
        shown = subst (λ (b : Block). IsShown (post_of j.plain.shape b entry.event) entry.shown) (sym same) a.shown;
      }

  -- what the log permits, the judge's map permits
  may_here : (e : Event) → MayNext j.plain.shape (end_of j.plain.shape image log) e → May j.plain.shape (own_block j e) e
  may_here e m = subst (λ (b : Block). May j.plain.shape b e) (same_block e m.0) m

  may_there : (e : Event) → May j.plain.shape (own_block j e) e → MayNext j.plain.shape (end_of j.plain.shape image log) e
  may_there e m = subst (λ (b : Block). May j.plain.shape b e) (sym (same_block e m.0)) m

  -- an entry that the judge rejects breaks what it says
  pub rejected : (entry : Entry) (breach : Breach) → Rejects j entry breach → Breaks j.order j.plain.shape image log entry breach
  rejected entry (NotPermitted rule) r = (
    moved j.plain.shape (there entry.event) (own_block j entry.event) entry.event rule (λ lt. sym (same_block entry.event lt)) r,
    λ m. not_permitted j.plain.shape (own_block j entry.event) entry.event rule r (may_here entry.event m),
  )
  rejected entry OutOfOrder r = (
    may_there entry.event r.0,
    λ first. r.1 ((asked_is (own_block j entry.event) (block_of j.plain.shape entry.event) entry.event r.0.1).1 first),
  )
  rejected entry (NotAsShown difference) r = (
    may_there entry.event r.0,
    (asked_is (own_block j entry.event) (block_of j.plain.shape entry.event) entry.event r.0.1).0 r.1,
    subst (λ (b : Block). Differs (post_of j.plain.shape b entry.event) entry.shown difference) (sym (same_block entry.event r.0.0)) r.2,
  )

  -- the judge goes on with an event that is carried out
  pub carried : (e : Event) (new : JudgeState) → Carries j new e → Follows j.order j.plain.shape image (log ++ e ∷ []) new
  carried e new k =
      let grow = (runs_grow_by_one j.plain.shape image).2 log e in
      let own : ℕ = block_of j.plain.shape e in
      let here : there e ≡ own_block j e = same_block e k.step.permitted.0 in
      record {
        same_order = k.same_order;
        same_shape = k.step.same_shape;
        run = grow.0.1 (f.run, may_there e k.step.permitted);
        ended = λ block l.
            ap (λ (g : ℕ → Block). g block) grow.1
            ∙ elim (cases_eq block own) [
              | inl same ↦
                  subst (λ (b : ℕ). after_next j.plain.shape (end_of j.plain.shape image log) e b ≡ state_of_plain new.plain b) (sym same)
                  (own_next j.plain.shape (end_of j.plain.shape image log) e ∙ (ap (λ (b : Block). after j.plain.shape b e) here ∙ sym k.step.changed))
              | inr other ↦ other_next j.plain.shape (end_of j.plain.shape image log) e block other ∙ (f.ended block l ∙ sym (k.step.others block other))
            ];
        waits = λ x l lt.
            k.waits x l
            ∙ (ap (λ (bs : List ℕ). joined (post_of j.plain.shape (own_block j e) e) own x l (removed (take_of e) x l bs)) (f.waits x l lt)
            ∙ (ap (λ (b : Block). joined (post_of j.plain.shape b e) own x l (removed (take_of e) x l (map block_in (lane_of j.plain.shape image log x l).messages))) (sym here)
            ∙ (sym (map_lane j.plain.shape (there e) e x l (lane_of j.plain.shape image log x l))
            ∙ ap (λ (lane : Lane). map block_in lane.messages) (sym (lanes_grow_by_one j.plain.shape image log e x l)))));
      }

-- a judge at reset follows the empty log
pub starts : (order : ChannelOrder) (shape : Shape) (image : List ℕ) (j : JudgeState) → j.order ≡ order → IsReset shape image j.plain
    → ((x : ℕ) (l : Channel) → waiting_in j.waiting x l ≡ []) → Follows order shape image [] j
starts order shape image j same r empty =
    record {
      same_order = same;
      same_shape = r.same_shape;
      run = tt;
      ended = λ block lt. sym (r.blocks block lt);
      waits = λ x l lt. empty x l ∙ ap (λ (lane : Lane). map block_in lane.messages) (sym ((empty_is_lawful shape image).1 x l));
    }

-- ## Any shape that the judge follows

module _ (j : JudgeState) (order : ChannelOrder) (shape : Shape) (image : List ℕ) (log : List Event) (f : Follows order shape image log j) where
  own : Follows j.order j.plain.shape image log j
  own =
      subst (λ (o : ChannelOrder). Follows o j.plain.shape image log j) (sym f.same_order)
      (subst (λ (sh : Shape). Follows order sh image log j) (sym f.same_shape) f)

  pub all_allowed : (entry : Entry) → Allows j entry → IsPermitted order shape image log entry
  all_allowed entry a =
      subst (λ (o : ChannelOrder). IsPermitted o shape image log entry) f.same_order
      (subst (λ (sh : Shape). IsPermitted j.order sh image log entry) f.same_shape (allowed image log j own entry a))

  pub all_rejected : (entry : Entry) (breach : Breach) → Rejects j entry breach → Breaks order shape image log entry breach
  all_rejected entry breach r =
      subst (λ (o : ChannelOrder). Breaks o shape image log entry breach) f.same_order
      (subst (λ (sh : Shape). Breaks j.order sh image log entry breach) f.same_shape (rejected image log j own entry breach r))

  pub all_carried : (e : Event) (new : JudgeState) → Carries j new e → Follows order shape image (log ++ e ∷ []) new
  all_carried e new k =
      subst (λ (o : ChannelOrder). Follows o shape image (log ++ e ∷ []) new) f.same_order
      (subst (λ (sh : Shape). Follows j.order sh image (log ++ e ∷ []) new) f.same_shape (carried image log j own e new k))

-- ## Records

-- a lawful log goes on with entries that are permitted
goes_on : (shape : Shape) (image : List ℕ) (log : List Event) (entries : List Entry) → Lawful shape image log
    → IsLawfulAfter Whole shape image log entries → Lawful shape image (log ++ events_of entries)
goes_on shape image log [] lawful h = subst (λ (es : List Event). Lawful shape image es) (sym (append-nil log)) lawful
goes_on shape image log (entry ∷ rest) lawful h =
    subst (λ (es : List Event). Lawful shape image es) (append_assoc log (entry.event ∷ []) (events_of rest))
    (goes_on shape image (log ++ entry.event ∷ []) rest (lawful_grows_by_one shape image log entry.event lawful h.0.may h.0.first) h.1)

-- a lawful record is a lawful log
pub every_lawful_record : EveryLawfulRecordIsALawfulLog
every_lawful_record shape image entries h = goes_on shape image [] entries (empty_is_lawful shape image).0 h

-- a run goes on with entries that are permitted in any order
runs_on : (order : ChannelOrder) (shape : Shape) (image : List ℕ) (log : List Event) (entries : List Entry) → IsRun shape image log
    → IsLawfulAfter order shape image log entries → IsRun shape image (log ++ events_of entries)
runs_on order shape image log [] run h = subst (λ (es : List Event). IsRun shape image es) (sym (append-nil log)) run
runs_on order shape image log (entry ∷ rest) run h =
    subst (λ (es : List Event). IsRun shape image es) (append_assoc log (entry.event ∷ []) (events_of rest))
    (runs_on order shape image (log ++ entry.event ∷ []) rest (((runs_grow_by_one shape image).2 log entry.event).0.1 (run, h.0.may)) h.1)

-- a lawful record is a run
pub every_lawful_run : EveryLawfulRecordIsARun
every_lawful_run order shape image entries h = runs_on order shape image [] entries tt h

-- entries that are permitted in the order of whole channels are so in that of each block
in_blocks : (shape : Shape) (image : List ℕ) (log : List Event) (entries : List Entry) → IsLawfulAfter Whole shape image log entries
    → IsLawfulAfter EachBlock shape image log entries
in_blocks shape image log [] h = tt
in_blocks shape image log (entry ∷ rest) h =
    (record { may = h.0.may; first = tt; shown = h.0.shown }, in_blocks shape image (log ++ entry.event ∷ []) rest h.1)

-- a record in order is lawful for each block
pub every_record_in_order : EveryRecordInOrderIsLawful
every_record_in_order shape image entries h = in_blocks shape image [] entries h

-- what differs from a message is not that message
no_message : (body : Body) (shown : Shown) (d : Difference) → DiffersFrom body shown d → ¬ IsMessage body shown
no_message body shown NothingIsSent h m = h
no_message body shown (OtherMessage sent) h m = h.1 (ap name_of (h.0 ∙ m.0))
no_message body shown (OtherParam sent) h m = h.2 (ap bare_of (h.0 ∙ m.0))
no_message body shown (DataIsMissing sent) h m = h.3 (h.0 ∙ m.0, subst (λ (b : Option (List ℕ)). IsSome b) m.1 h.2)
no_message body shown (DataIsExtra sent) h m = h.3 (h.0 ∙ m.0, sym m.1 ∙ h.2)
no_message body shown (OtherBytes sent seen) h m = let e = m.1 in let f = h.1 in let g = h.2 in h.3 (cc)

-- and what differs from what is sent is not as it is shown
differs : (post : Option Post) (shown : Option Shown) (d : Difference) → Differs post shown d → ¬ IsShown post shown
differs post None d h s = h
differs None (Some shown) d h s = s
differs (Some post) (Some shown) d h s = no_message post.body shown d h s

-- an entry that breaks something is not permitted
pub no_broken_entry : NoBrokenEntryIsPermitted
no_broken_entry order shape image log entry (NotPermitted rule) b p = b.1 p.may
no_broken_entry order shape image log entry OutOfOrder b p = b.1 p.first
no_broken_entry order shape image log entry (NotAsShown difference) b p =
    differs (post_after shape image log entry.event) entry.shown difference b.2 p.shown
