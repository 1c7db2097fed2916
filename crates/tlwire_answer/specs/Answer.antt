-- What the answer to a record of messages ends with.
use Rattle.std.specs.Prelude.{◌≡◌, ◌<◌, ℕ, true, false, List, length, take, Option, Some, None}
use Rattle.tlwire_search.specs.Explained.{Explains}
use Rattle.tlwire_search.specs.Premises.{drops, has_drops}
use Rattle.tl_protocol.specs.Runs.{at_reset}
use Rattle.tl_protocol.specs.declared.event.Event.{Event}
use Rattle.tlwire_search.specs.declared.seen.Seen.{Seen}
use Rattle.tlwire_pins.specs.Drops.{IsInFull}
use Rattle.tlwire_pins.specs.Impossible.{IsImpossible}
use Rattle.tlwire_pins.specs.Judged.{EachMay}
use Rattle.tlwire_pins.specs.Pins.{KeepsOrder, lines_from}
use Rattle.tlwire_pins.specs.Taps.{cores_of, tap_of}
use Rattle.tlwire_pins.specs.Walk.{IsWrong}
use Rattle.tlwire_pins.specs.declared.pass.Wrong.{Wrong}
use Rattle.tlwire_closed.specs.Along.{IsImpossible as IsSeenByNone, IsSeenSo}
use Rattle.tlwire_closed.specs.declared.premise.Premise.{Premise as SetPremise}
use Rattle.tlwire_search.specs.declared.way.Way.{Way}
use Rattle.tlwire_answer.specs.Named.{Says, is_told, names, premise_of}
use Rattle.tlwire_answer.specs.Waits.{unmet_of}
use Rattle.tlwire_record.specs.Messages.{MessagesState}
use Rattle.tlwire_answer.specs.declared.sets.Sets.{Sets}
use Rattle.tlwire_answer.specs.declared.sets.Sets.TheVariants.{Stuck, Open}
use Rattle.tlwire_answer.specs.declared.verdict.Verdict.{Verdict}
use Rattle.tlwire_answer.specs.declared.verdict.Verdict.TheVariants.{Explained, Impossible, RuledOut, NotDecided, OtherOrder, Unmet}

-- The header says that a client's lines are told at the client's pins, its core's and its drops of clean copies too or not; there this line
-- may not be seen, and no lawful run over any image is seen so.
pub record IsNo (m : MessagesState) (w : Wrong) : Type 0 where
  pub client : ℕ
  pub premise : is_told m.setting.premises client ≡ true
  pub wrong : IsWrong (tap_of m.setting.premises client) m.setting.shape client m.seen w
  pub impossible : IsImpossible (tap_of m.setting.premises client) m.setting.shape client m.seen

-- what of these lines is told at a client's pins may be seen there, each line after those before it
abbrev pub MayAt : MessagesState → List Seen → ℕ → Type 0
MayAt m lines client =
    is_told m.setting.premises client ≡ true → EachMay (tap_of m.setting.premises client) m.setting.shape client lines

-- at those of each client below a number
abbrev pub MayBelow : MessagesState → ℕ → List Seen → Type 0
MayBelow m clients lines = (client : ℕ) → client < clients → MayAt m lines client

-- At no client's pins is anything wrong with these lines.
abbrev pub MayAtPins : MessagesState → List Seen → Type 0
MayAtPins m lines = MayBelow m m.setting.shape.clients lines

-- The header says how the record was seen, and no lawful run over the image is seen so; no client drops clean copies.
pub record IsRuledOut (m : MessagesState) : Type 0 where
  pub nobody_drops : has_drops m.setting.premises ≡ false
  pub premise : SetPremise
  pub said : Says m.setting.premises (length m.seen) premise
  pub impossible : IsSeenByNone m.setting.shape premise m.image m.seen

-- lines at the pins of clients have the record's in their order, of a client that is told there
abbrev pub ClientKeepsOrder : MessagesState → List Seen → ℕ → Type 0
ClientKeepsOrder m lines client =
    is_told m.setting.premises client ≡ true
    → KeepsOrder (cores_of m.setting.premises client) m.setting.shape client lines m.seen

-- and of each
abbrev pub EachKeepsOrder : MessagesState → List Seen → Type 0
EachKeepsOrder m lines = (client : ℕ) → client < m.setting.shape.clients → ClientKeepsOrder m lines client

-- A run is seen so at the pins of each client that is told there.
abbrev pub IsInOrder : MessagesState → List Event → Type 0
IsInOrder m run = EachKeepsOrder m (lines_from m.setting.shape (at_reset m.setting.shape m.image) run)

-- no client is told there
abbrev pub NobodyIsTold : MessagesState → Type 0
NobodyIsTold m = (client : ℕ) → client < m.setting.shape.clients → is_told m.setting.premises client ≡ false

-- A run is seen so, where the header names the way of seeing.
abbrev pub Meets : MessagesState → List Event → Way → Type 0
Meets m run way = names m.setting.premises way ≡ true → IsSeenSo m.setting.shape (premise_of m.setting.premises way) m.image m.seen run

-- A run explains a record: it has what was seen on each wire; the lines at the pins of each client that is told there in their order of
-- time, so that it is seen so there (`IsSeenAt`); and it is seen so in each way that the header names.
pub record IsExplained (m : MessagesState) (run : List Event) : Type 0 where
  pub wires : Explains m.setting.premises m.setting.shape m.image m.seen run
  pub pins : IsInOrder m run
  pub ways : (way : Way) → Meets m run way

-- a record with these lines in place of its own
abbrev pub with_lines : MessagesState → List Seen → MessagesState
with_lines m lines = record m { seen = lines }

-- A run explains a record whose clients may drop clean copies: it explains the record in full, with the Release and the ReleaseAck of each
-- drop, which nobody saw (`IsInFull`). Where no client drops copies, that is the record.
pub record IsExplainedInFull (m : MessagesState) (run : List Event) : Type 0 where
  pub full : List Seen
  pub in_full : IsInFull (drops m.setting.premises) m.seen full
  pub explained : IsExplained (with_lines m full) run

-- What may be said of what was seen: a run that explains it; or that there is none, and then nothing before the line that is named is wrong
-- at a client's pins; or a place in it, of which nothing else is claimed; or what is not as the header expects.
abbrev pub IsVerdict : MessagesState → Verdict → Type 0
IsVerdict m (Explained run) = IsExplainedInFull m run.items
IsVerdict m (Impossible w) = IsNo m w × MayAtPins m (take w.place m.seen)
IsVerdict m (RuledOut stuck) = IsRuledOut m × MayAtPins m (take stuck.place m.seen)
IsVerdict m (NotDecided place limit sets) = place < length m.seen
IsVerdict m (OtherOrder order sets) = Unit {0}
IsVerdict m (Unmet unmet) = unmet_of m ≡ Some unmet

-- a record that is not impossible is as the header expects, unless that is what is said of it
abbrev pub IsAsExpected : MessagesState → Verdict → Type 0
IsAsExpected m (Explained run) = unmet_of m ≡ None
IsAsExpected m (Impossible w) = Unit {0}
IsAsExpected m (RuledOut stuck) = Unit {0}
IsAsExpected m (NotDecided place limit sets) = unmet_of m ≡ None
IsAsExpected m (OtherOrder order sets) = unmet_of m ≡ None
IsAsExpected m (Unmet unmet) = Unit {0}

-- What is said of what was seen.
abbrev pub IsJudged : MessagesState → Verdict → Type 0
IsJudged m verdict = IsVerdict m verdict × IsAsExpected m verdict

-- What a search for a run that has a record's lines comes to. No public clause cites it.
abbrev pub IsFound : MessagesState → Verdict → Type 0
IsFound m (Explained run) = IsExplained m run.items
IsFound m (Impossible w) = ⊥
IsFound m (RuledOut stuck) = ⊥
IsFound m (NotDecided place limit sets) = place < length m.seen
IsFound m (OtherOrder order sets) = Unit {0}
IsFound m (Unmet unmet) = ⊥

-- What closed sets say of the lines before a place, in the ways that were asked: that there is no run; or why they say nothing.
abbrev pub IsSets : MessagesState → ℕ → Sets → Type 0
IsSets m to (Stuck stuck) = IsRuledOut m × (stuck.place < to)
IsSets m to (Open reason) = Unit {0}

-- What is wrong at a client's pins, and nothing before it; or nothing is.
abbrev pub IsWrongAt : MessagesState → ℕ → Option Wrong → Type 0
IsWrongAt m client None = MayAt m m.seen client
IsWrongAt m client (Some w) = IsNo m w × MayAt m (take w.place m.seen) client

-- At the pins of so many clients: the first that is wrong, and nothing before it; or nothing is.
abbrev pub IsFirstOf : MessagesState → ℕ → Option Wrong → Type 0
IsFirstOf m clients None = MayBelow m clients m.seen
IsFirstOf m clients (Some w) = IsNo m w × MayBelow m clients (take w.place m.seen)
