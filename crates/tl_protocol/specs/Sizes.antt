-- Wherever the bytes of a block are, they are a whole block (this project's own theorems).
use Rattle.std.specs.Prelude.{◌≡◌, ℕ, List, length, Option, Some, None}
use Rattle.std.specs.List.{All}
use Rattle.tl_types.specs.Message.{upward_bytes}
use Rattle.tl_types.specs.Bodies.{downward_bytes}
use Rattle.tl_protocol.specs.declared.copy.CachedCopy.{CachedCopy}
use Rattle.tl_protocol.specs.declared.copy.CachedCopy.TheVariants.{Absent, Readable, Writable}
use Rattle.tl_protocol.specs.declared.event.Event.{Event}
use Rattle.tl_protocol.specs.declared.home.Line.{Line}
use Rattle.tl_protocol.specs.declared.home.Outward.{Outward}
use Rattle.tl_protocol.specs.declared.home.Outward.TheVariants.{Quiet, Get, Data, Put, PutAck}
use Rattle.tl_protocol.specs.declared.shape.Shape.{Shape}
use Rattle.tl_protocol.specs.Protocol.{Block}
use Rattle.tl_protocol.specs.Runs.{IsRun, end_of}

-- ## The bytes that are there

-- a copy's bytes, if there is one
abbrev pub copy_bytes : CachedCopy → Option (List ℕ)
copy_bytes Absent = None
copy_bytes (Readable bytes) = Some bytes
copy_bytes (Writable bytes dirty) = Some bytes

-- home's bytes, if it has a copy
abbrev pub line_bytes : Option Line → Option (List ℕ)
line_bytes None = None
line_bytes (Some line) = Some line.bytes

-- the bytes that pass between home and the memory, if any
abbrev pub outward_bytes : Outward → Option (List ℕ)
outward_bytes Quiet = None
outward_bytes Get = None
outward_bytes (Data bytes) = Some bytes
outward_bytes (Put bytes) = Some bytes
outward_bytes PutAck = None

-- ## Their size

-- bytes that are there are so many
abbrev pub IsWhole : ℕ → Option (List ℕ) → Type 0
IsWhole size None = Unit {0}
IsWhole size (Some bytes) = length bytes ≡ size

-- Each copy, each message with data, home's copy, what passes to and from the memory, and the memory's bytes are a whole block.
pub record IsWholeAt (shape : Shape) (s : Block) : Type 0 where
  pub held : (x : ℕ) → IsWhole shape.block_bytes (copy_bytes (s.client x).held)
  pub on_c : (x : ℕ) → All (λ message. IsWhole shape.block_bytes (upward_bytes message)) (s.client x).c
  pub on_d : (x : ℕ) → All (λ message. IsWhole shape.block_bytes (downward_bytes message)) (s.client x).d
  pub home : IsWhole shape.block_bytes (line_bytes s.home)
  pub outward : IsWhole shape.block_bytes (outward_bytes s.outward)
  pub memory : length s.memory ≡ shape.block_bytes

-- so it is with each block in the end of every run
abbrev pub EveryRunKeepsSizes : Type 0
EveryRunKeepsSizes =
    (shape : Shape) (image : List ℕ) (events : List Event) → IsRun shape image events → (block : ℕ)
    → IsWholeAt shape (end_of shape image events block)
