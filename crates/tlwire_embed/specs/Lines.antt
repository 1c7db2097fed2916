-- The line that plain numbers stand for (this project's own numbers of what is seen; channels, opcodes and params are those of
-- TileLink 1.8, section 6).
use Rattle.std.specs.Prelude.{ℕ, List, ◌==◌, ◌/◌, take, nat_lt, Option, Some, None, if◌then◌else◌}
use Rattle.std.specs.Option.{option_map}
use Rattle.tl_types.specs.Bodies.{has_data}
use Rattle.tl_types.specs.declared.kind.Kind.{Kind}
use Rattle.tl_protocol.specs.declared.shape.Shape.{Shape}
use Rattle.tlcheck_rules.specs.declared.entry.Shown.{Shown}
use Rattle.tlcheck_embed.specs.Kinds.{kind_shown}
use Rattle.tlwire_search.specs.declared.seen.Seen.{Seen}
use Rattle.tlwire_search.specs.declared.seen.Seen.TheVariants as seen
use Rattle.tlwire_pins.specs.declared.view.Cores.{Cores}
use Rattle.tlwire_pins.specs.declared.view.Cores.TheVariants.{Watched, Unseen}
use Rattle.tlwire_embed.specs.declared.line.PinsLine.{PinsLine}

-- the bytes of an access, at most eight, where somebody watched the core
abbrev pub access_in : Cores → PinsLine → Option (List ℕ)
access_in Watched l = if nat_lt 8 l.len then None else Some (take l.len l.bytes)
access_in Unseen l = None

-- the same of an address in the memory
abbrev pub access_of : Cores → Shape → PinsLine → Option (List ℕ)
access_of cores shape l = if nat_lt (l.place / shape.block_bytes) shape.blocks then access_in cores l else None

-- a message of a kind, with the bytes of a block where it carries some, and with none else
abbrev pub message_in : Shape → PinsLine → Kind → Option Shown
message_in shape l kind =
    if has_data kind
    then (if l.len == shape.block_bytes then Some (record { kind = kind; bytes = Some (take l.len l.bytes) }) else None)
    else if l.len == 0 then Some (record { kind = kind; bytes = None })
    else None

-- the same of a kind that there is
abbrev pub message_of_kind : Shape → PinsLine → Option Kind → Option Shown
message_of_kind shape l None = None
message_of_kind shape l (Some kind) = message_in shape l kind

-- the message, of a block of the memory
abbrev pub message_of : Shape → PinsLine → Option Shown
message_of shape l =
    if nat_lt l.place shape.blocks then message_of_kind shape l (kind_shown l.channel l.opcode l.param) else None

-- what was seen, of a client that there is
abbrev pub seen_of : Cores → Shape → PinsLine → Option Seen
seen_of cores shape l =
    if l.what == 0 then option_map (λ (bytes : List ℕ). seen.Load l.client l.place bytes) (access_of cores shape l)
    else if l.what == 1 then option_map (λ (bytes : List ℕ). seen.Store l.client l.place bytes) (access_of cores shape l)
    else if l.what == 2 then option_map (λ (message : Shown). seen.OnLink l.client l.place message) (message_of shape l)
    else None

-- the line that the numbers stand for, if any
abbrev pub line_of : Cores → Shape → PinsLine → Option Seen
line_of cores shape l = if nat_lt l.client shape.clients then seen_of cores shape l else None
