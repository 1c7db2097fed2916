-- Which lines of a record of messages a chart has, and what is drawn of each (this project's own).
use Rattle.std.specs.Prelude.{◌≡◌, ℕ, suc, ◌==◌, List, [], ◌∷◌, map, slice_get, take, Option, Some, None, if◌then◌else◌}
use Rattle.std.specs.Option.{option_map}
use Rattle.tl_types.specs.declared.kind.Kind.{Kind}
use Rattle.tlcheck_rules.specs.declared.entry.Shown.{Shown}
use Rattle.tlwire_answer.specs.Lines.{number_at}
use Rattle.tlwire_record.specs.Messages.{MessagesState}
use Rattle.tlwire_search.specs.Where.{block_of}
use Rattle.tlwire_search.specs.declared.seen.Seen.{Seen}
use Rattle.tlwire_search.specs.declared.seen.Seen.TheVariants.{OnLink, OnMemory, Load, Store}
use Rattle.tlchart_draw.specs.Strip.{IsStrip, last_of}
use Rattle.tlchart_draw.specs.declared.strip.Row.{Row}
use Rattle.tlchart_draw.specs.declared.strip.Strip.{Strip}
use Rattle.tlchart_draw.specs.declared.strip.TheConstants.{LINES_BEFORE}
use Rattle.tlchart_model.specs.declared.message.ShownMessage.{ShownMessage}
use Rattle.tlchart_model.specs.declared.turn.Mark.{Mark}
use Rattle.tlchart_model.specs.declared.turn.Mark.TheVariants.{Loaded, Stored}

-- ## What is drawn of a line

-- a message as it is told: its block, its kind, its bytes
pub record Message : Type 0 where
  pub block : ℕ
  pub kind : Kind
  pub bytes : Option (List ℕ)

-- a message that was seen, of a block
abbrev pub message_in : ℕ → Shown → Message
message_in block shown = record { block = block; kind = shown.kind; bytes = shown.bytes }

-- what was seen has a message, and a load or a store none
abbrev pub message_of : Seen → Option Message
message_of (OnLink client block shown) = Some (message_in block shown)
message_of (OnMemory block shown) = Some (message_in block shown)
message_of (Load client address bytes) = None
message_of (Store client address bytes) = None

-- a load and a store have a mark, with their bytes
abbrev pub mark_of : Seen → Option Mark
mark_of (OnLink client block shown) = None
mark_of (OnMemory block shown) = None
mark_of (Load client address bytes) = Some (Loaded bytes)
mark_of (Store client address bytes) = Some (Stored bytes)

-- a message as it is drawn
abbrev pub message_drawn : ShownMessage → Message
message_drawn m = record { block = m.block; kind = m.kind; bytes = m.bytes }

-- a row: the number of its line, its message and its mark
pub record Telling : Type 0 where
  pub number : ℕ
  pub message : Option Message
  pub mark : Option Mark

-- what a row tells
abbrev pub told_by : Row → Telling
told_by row = record { number = row.line.number; message = option_map message_drawn row.turn.sends; mark = row.turn.mark }

-- the message of what may have been seen
abbrev pub message_seen : Option Seen → Option Message
message_seen None = None
message_seen (Some seen) = message_of seen

-- its mark
abbrev pub mark_seen : Option Seen → Option Mark
mark_seen None = None
mark_seen (Some seen) = mark_of seen

-- what is to be told of what was seen at a place
abbrev pub told_at : MessagesState → ℕ → Telling
told_at m place = record {
  number = number_at m.lines place;
  message = message_seen (slice_get m.seen place);
  mark = mark_seen (slice_get m.seen place);
}

-- ## Which lines are drawn

-- the places of what was seen of a block, the first at this place
abbrev pub places_of : ℕ → ℕ → ℕ → List Seen → List ℕ
places_of size block place [] = []
places_of size block place (seen ∷ rest) =
    if block_of size seen == block then place ∷ places_of size block (suc place) rest else places_of size block (suc place) rest

-- the places of a block before one
abbrev pub places_before : MessagesState → ℕ → ℕ → List ℕ
places_before m block place = places_of m.setting.shape.block_bytes block 0 (take place m.seen)

-- A chart of a record that broke at a place: of the lines before it those of its block, as far as they are drawn, each with what was seen;
-- and its line, marked with these words.
pub record IsStripOf (m : MessagesState) (place : ℕ) (words : List ℕ) (strip : Strip) : Type 0 where
  pub seen : Seen
  pub there : slice_get m.seen place ≡ Some seen
  pub rows :
      IsStrip (map (number_at m.lines) (places_before m (block_of m.setting.shape.block_bytes seen) place)) (number_at m.lines place) words
      strip.rows.items
  pub told :
      map told_by rows.before
      ≡ map (told_at m) (last_of LINES_BEFORE (places_before m (block_of m.setting.shape.block_bytes seen) place))
