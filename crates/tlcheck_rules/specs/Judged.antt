-- What it is for a record's events to be permitted one after another, and which rule the first breaks that is not.
use Rattle.std.specs.Prelude.{◌≡◌, ℕ, ◌<◌, List, [], ◌∷◌, ◌++◌, map, Option, Some, None}
use Rattle.tl_types.specs.declared.channel.Channel.{Channel}
use Rattle.tl_protocol.specs.declared.event.Event.{Event}
use Rattle.tl_protocol.specs.declared.shape.Shape.{Shape}
use Rattle.tl_protocol.specs.Protocol.{Block, May, block_of}
use Rattle.tl_protocol.specs.Runs.{MayNext, IsRun, end_of}
use Rattle.tl_protocol_lanes.specs.Lanes.{Post, post_of, take_of, lane_of}
use Rattle.tl_protocol_lanes.specs.Lawful.{TakesFirst, Lawful}
use Rattle.tl_rules.specs.Plain.{state_of_plain, IsStep}
use Rattle.tl_rules.specs.PlainState.{PlainState}
use Rattle.tlcheck_rules.specs.Differs.{Differs, IsMessage}
use Rattle.tlcheck_rules.specs.Order.{Asks, Waiting, IsNextIn, joined, removed, waiting_in}
use Rattle.tlcheck_rules.specs.Rules.{IsFirstBroken}
use Rattle.tlcheck_rules.specs.declared.entry.Entry.{Entry}
use Rattle.tlcheck_rules.specs.declared.entry.Shown.{Shown}
use Rattle.tlcheck_rules.specs.declared.judge.Breach.{Breach}
use Rattle.tlcheck_rules.specs.declared.judge.Breach.TheVariants.{NotPermitted, OutOfOrder, NotAsShown}
use Rattle.tlcheck_rules.specs.declared.order.ChannelOrder.{ChannelOrder}
use Rattle.tlcheck_rules.specs.declared.order.ChannelOrder.TheVariants.{Whole, EachBlock}

-- ## One entry

-- a message that is sent is the one that is shown
abbrev pub IsSent : Option Post → Shown → Type 0
IsSent None shown = ⊥
IsSent (Some post) shown = IsMessage post.body shown

-- what is shown of an event, if anything is, is what it sends
abbrev pub IsShown : Option Post → Option Shown → Type 0
IsShown post None = Unit {0}
IsShown post (Some shown) = IsSent post shown

-- what an event sends after a log
abbrev pub post_after : Shape → List ℕ → List Event → Event → Option Post
post_after shape image log e = post_of shape (end_of shape image log (block_of shape e)) e

-- An entry of a record may come after a log: the protocol permits its event, which takes the first message of its channel, if it takes
-- one and that order is asked for, and sends what is shown, if something is.
pub record IsPermitted (order : ChannelOrder) (shape : Shape) (image : List ℕ) (log : List Event) (entry : Entry) : Type 0 where
  pub may : MayNext shape (end_of shape image log) entry.event
  pub first : Asks order (TakesFirst shape image log entry.event)
  pub shown : IsShown (post_after shape image log entry.event) entry.shown

-- the first test that an entry does not meet after a log: a rule of the protocol, the order of its channel, what is shown, and how that differs
abbrev pub Breaks : ChannelOrder → Shape → List ℕ → List Event → Entry → Breach → Type 0
Breaks order shape image log entry (NotPermitted rule) =
    IsFirstBroken shape (end_of shape image log (block_of shape entry.event)) entry.event (Some rule)
    × (¬ MayNext shape (end_of shape image log) entry.event)
Breaks order shape image log entry OutOfOrder =
    MayNext shape (end_of shape image log) entry.event × (¬ Asks order (TakesFirst shape image log entry.event))
Breaks order shape image log entry (NotAsShown difference) =
    MayNext shape (end_of shape image log) entry.event × Asks order (TakesFirst shape image log entry.event)
    × Differs (post_after shape image log entry.event) entry.shown difference

-- ## A record

-- the events of some entries
abbrev pub events_of : List Entry → List Event
events_of entries = map (λ (entry : Entry). entry.event) entries

-- each of these entries is permitted after a log and the entries before it
abbrev pub IsLawfulAfter : ChannelOrder → Shape → List ℕ → List Event → List Entry → Type 0
IsLawfulAfter order shape image log [] = Unit {0}
IsLawfulAfter order shape image log (entry ∷ rest) =
    IsPermitted order shape image log entry × IsLawfulAfter order shape image (log ++ entry.event ∷ []) rest

-- so it is from reset over an image
abbrev pub IsLawful : ChannelOrder → Shape → List ℕ → List Entry → Type 0
IsLawful order shape image entries = IsLawfulAfter order shape image [] entries

-- Where the order of whole channels is asked for, the events are then a run that takes the messages of each channel in order.
abbrev pub EveryLawfulRecordIsALawfulLog : Type 0
EveryLawfulRecordIsALawfulLog =
    (shape : Shape) (image : List ℕ) (entries : List Entry) → IsLawful Whole shape image entries → Lawful shape image (events_of entries)

-- In either order the events are a run of the protocol.
abbrev pub EveryLawfulRecordIsARun : Type 0
EveryLawfulRecordIsARun =
    (order : ChannelOrder) (shape : Shape) (image : List ℕ) (entries : List Entry)
    → IsLawful order shape image entries → IsRun shape image (events_of entries)

-- A record that is lawful in the order of whole channels is so in that of each block.
abbrev pub EveryRecordInOrderIsLawful : Type 0
EveryRecordInOrderIsLawful =
    (shape : Shape) (image : List ℕ) (entries : List Entry) → IsLawful Whole shape image entries → IsLawful EachBlock shape image entries

-- An entry breaks something exactly where it is not permitted.
abbrev pub NoBrokenEntryIsPermitted : Type 0
NoBrokenEntryIsPermitted =
    (order : ChannelOrder) (shape : Shape) (image : List ℕ) (log : List Event) (entry : Entry) (breach : Breach)
    → Breaks order shape image log entry breach → ¬ IsPermitted order shape image log entry

-- ## The judge

-- the map of the state, what waits on each channel, and which order is asked for
pub record JudgeState : Type 0 where
  pub plain : PlainState
  pub waiting : Waiting
  pub order : ChannelOrder

-- the block of an event
abbrev pub own_block : JudgeState → Event → Block
own_block judge e = state_of_plain judge.plain (block_of judge.plain.shape e)

-- An entry meets each test, as the judge's state says.
pub record Allows (judge : JudgeState) (entry : Entry) : Type 0 where
  pub may : May judge.plain.shape (own_block judge entry.event) entry.event
  pub first : Asks judge.order (IsNextIn judge.waiting (block_of judge.plain.shape entry.event) (take_of entry.event))
  pub shown : IsShown (post_of judge.plain.shape (own_block judge entry.event) entry.event) entry.shown

-- the first test that it does not meet
abbrev pub Rejects : JudgeState → Entry → Breach → Type 0
Rejects judge entry (NotPermitted rule) =
    IsFirstBroken judge.plain.shape (own_block judge entry.event) entry.event (Some rule)
Rejects judge entry OutOfOrder =
    May judge.plain.shape (own_block judge entry.event) entry.event
    × (¬ Asks judge.order (IsNextIn judge.waiting (block_of judge.plain.shape entry.event) (take_of entry.event)))
Rejects judge entry (NotAsShown difference) =
    May judge.plain.shape (own_block judge entry.event) entry.event
    × Asks judge.order (IsNextIn judge.waiting (block_of judge.plain.shape entry.event) (take_of entry.event))
    × Differs (post_of judge.plain.shape (own_block judge entry.event) entry.event) entry.shown difference

-- An event is carried out, in the map and on the channels.
pub record Carries (old new : JudgeState) (e : Event) : Type 0 where
  pub step : IsStep old.plain new.plain e
  pub waits :
      (x : ℕ) (l : Channel)
      → waiting_in new.waiting x l
      ≡ joined (post_of old.plain.shape (own_block old e) e) (block_of old.plain.shape e) x l
      (removed (take_of e) x l (waiting_in old.waiting x l))
  pub same_order : new.order ≡ old.order

-- The judge asks for an order, and is where a log leads from reset over an image.
pub record Follows (order : ChannelOrder) (shape : Shape) (image : List ℕ) (log : List Event) (judge : JudgeState) : Type 0 where
  pub same_order : judge.order ≡ order
  pub same_shape : judge.plain.shape ≡ shape
  pub run : IsRun shape image log
  pub ended : (block : ℕ) → block < shape.blocks → end_of shape image log block ≡ state_of_plain judge.plain block
  pub waits :
      (x : ℕ) (l : Channel) → x < shape.clients
      → waiting_in judge.waiting x l ≡ map (λ message. message.block) (lane_of shape image log x l).messages
