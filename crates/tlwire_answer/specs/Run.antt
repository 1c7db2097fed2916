-- A run as a record of events (this project's own format: docs/RECORD.md).
use Rattle.std.specs.Prelude.{ℕ, ◌==◌, List, [], ◌++◌, length, codes, decimal, if◌then◌else◌}
use Rattle.std.specs.List.{flat_map}
use Rattle.tl_protocol.specs.declared.event.Event.{Event}
use Rattle.tl_protocol.specs.declared.shape.Shape.{Shape}
use Rattle.tlcheck_record.specs.Written.{event_text}
use Rattle.tl_script_words.specs.Hex.{hex_text}

-- the geometry
abbrev pub shape_line : Shape → List ℕ
shape_line shape =
    codes "clients " ++ decimal shape.clients ++ codes " block_bytes " ++ decimal shape.block_bytes ++ codes " memory_blocks " ++ decimal shape.blocks ++ codes "\n"

-- the image, where there is one
abbrev pub image_line : List ℕ → List ℕ
image_line image = if length image == 0 then [] else codes "image " ++ hex_text image ++ codes "\n"

-- an event
abbrev pub event_line : Event → List ℕ
event_line e = event_text e ++ codes "\n"

-- the geometry, the image and the events
abbrev pub run_text : Shape → List ℕ → List Event → List ℕ
run_text shape image events = shape_line shape ++ image_line image ++ flat_map event_line events
