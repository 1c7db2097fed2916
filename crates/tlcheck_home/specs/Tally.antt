-- What is counted of the situations of a record (this project's own).
use Rattle.std.specs.Prelude.{◌≡◌, ◌≢◌, ◌⊎◌, ◌↔◌, ℕ, ◌+◌, ◌<◌, List, [], ◌∷◌, ◌++◌, length, replicate, Bool, Option, Some, None, Contains, IsTrue}
use Rattle.std.specs.Prelude.{slice_get, slice_index_or, slice_set}
use Rattle.tl_protocol.specs.declared.event.Event.{Event}
use Rattle.tl_protocol.specs.declared.shape.Shape.{Shape}
use Rattle.tl_protocol.specs.Protocol.{block_of}
use Rattle.tl_rules.specs.Plain.{state_of_plain}
use Rattle.tl_rules.specs.PlainState.{PlainState}
use Rattle.tlcheck_rules.specs.declared.order.ChannelOrder.{ChannelOrder}
use Rattle.tlcheck_rules.specs.Rules.{client_of}
use Rattle.tlcheck_situations.specs.Situation.{situation_of}
use Rattle.tlcheck_rules.specs.Judged.{Follows, IsPermitted, JudgeState}
use Rattle.tlcheck_rules.specs.declared.entry.Entry.{Entry}
use Rattle.tlcheck_home.specs.HomeTableState.{HomeTableState}
use Rattle.tlcheck_situations.specs.Reach.{situation_after}
use Rattle.tlcheck_situations.specs.declared.situation.Situation.{Situation}
use Rattle.tlcheck_home.specs.declared.tally.Count.{Count}
use Rattle.tlcheck_home.specs.declared.tally.Mark.{Mark}

-- the clients and the situations of a table, where it is asked for the table of what this project's home reaches, how
-- often each situation was counted, and how many events were in none of them
pub record TallyState : Type 0 where
  pub clients : ℕ
  pub situations : List Situation
  pub home : Option HomeTableState
  pub counts : List Count
  pub beyond : ℕ

-- whether this project's home reaches a situation; none where its table is not asked for
abbrev pub IsByHome : Option HomeTableState → Situation → Option Bool → Type 0
IsByHome None s None = Unit {0}
IsByHome None s (Some b) = ⊥
IsByHome (Some home) s None = ⊥
IsByHome (Some home) s (Some b) = IsTrue b ↔ Contains home.situations s

-- the first of two places
abbrev pub first_mark : Option Mark → Mark → Option Mark
first_mark None mark = Some mark
first_mark (Some first) mark = Some first

-- one more event, at a place
abbrev pub one_more : Count → Mark → Count
one_more count mark = record { events = count.events + 1; first = first_mark count.first mark }

-- no event
abbrev pub no_event : Count
no_event = record { events = 0; first = None }

-- Nothing is counted.
pub record IsUncounted (t : TallyState) : Type 0 where
  pub counts : t.counts ≡ replicate (length t.situations) no_event
  pub beyond : t.beyond ≡ 0

-- It counts over the same tables.
pub record HasTablesOf (old new : TallyState) : Type 0 where
  pub clients : new.clients ≡ old.clients
  pub situations : new.situations ≡ old.situations
  pub home : new.home ≡ old.home

-- The situation at a place is counted once more.
pub record IsCountedAt (k : ℕ) (mark : Mark) (old new : TallyState) : Type 0 where
  pub tables : HasTablesOf old new
  pub counts : new.counts ≡ slice_set old.counts k (one_more (slice_index_or old.counts k no_event) mark)
  pub beyond : new.beyond ≡ old.beyond

-- One more event is in none of the situations.
pub record IsCountedBeyond (old new : TallyState) : Type 0 where
  pub tables : HasTablesOf old new
  pub counts : new.counts ≡ old.counts
  pub beyond : new.beyond ≡ old.beyond + 1

-- An event in a situation is counted once: where the table has the situation, at it; else as one beyond the table.
abbrev pub IsNoted : Situation → Mark → TallyState → TallyState → Type 0
IsNoted s mark old new =
    ((k : ℕ) × (slice_get old.situations k ≡ Some s) × IsCountedAt k mark old new)
    ⊎ (((k : ℕ) → slice_get old.situations k ≢ Some s) × IsCountedBeyond old new)

-- An entry is permitted after a log, and its event is counted in the situation that it is in after that log.
pub record IsSeen (order : ChannelOrder) (shape : Shape) (image : List ℕ) (log : List Event) (entry : Entry) (mark : Mark) (judge : JudgeState) (old new : TallyState) : Type 0 where
  pub permitted : IsPermitted order shape image log entry
  pub follows : Follows order shape image (log ++ entry.event ∷ []) judge
  pub noted : IsNoted (situation_after shape image log entry.event) mark old new

-- the situation of an event, as a map of the state shows it; none where the event's block or its client is not there
abbrev pub IsSituationIn : PlainState → Event → Option Situation → Type 0
IsSituationIn plain e None = block_of plain.shape e < plain.shape.blocks → client_of e < plain.shape.clients → ⊥
IsSituationIn plain e (Some s) =
    s ≡ situation_of plain.shape.clients (state_of_plain plain (block_of plain.shape e)) e
