-- Where home has no copy of a block, the memory has its newest bytes, or a Put brings them (this project's own theorem).
use Rattle.std.specs.Prelude.{◌≡◌, ◌≢◌, ℕ, ◌*◌, List, None}
use Rattle.tl_protocol.specs.declared.event.Event.{Event}
use Rattle.tl_protocol.specs.declared.home.Outward.TheVariants.{Data, Put}
use Rattle.tl_protocol.specs.declared.shape.Shape.{Shape}
use Rattle.tl_protocol.specs.Coherent.{AreLast}
use Rattle.tl_protocol.specs.Protocol.{Block}
use Rattle.tl_protocol.specs.Runs.{IsRun, end_of}

-- With no copy at home and no Put on its way the memory has the bytes last stored; a Put and the answer to a Get have them too.
pub record IsWrittenAt (shape : Shape) (image : List ℕ) (events : List Event) (block : ℕ) (s : Block) : Type 0 where
  pub memory :
      s.home ≡ None → ((bytes : List ℕ) → s.outward ≢ Put bytes) → AreLast image events (block * shape.block_bytes) s.memory
  pub put : (bytes : List ℕ) → s.outward ≡ Put bytes → AreLast image events (block * shape.block_bytes) bytes
  pub fetched : (bytes : List ℕ) → s.outward ≡ Data bytes → AreLast image events (block * shape.block_bytes) bytes

-- so it is with each block in the end of every run
abbrev pub EveryBlockIsWritten : Type 0
EveryBlockIsWritten =
    (shape : Shape) (image : List ℕ) (events : List Event) → IsRun shape image events → (block : ℕ)
    → IsWrittenAt shape image events block (end_of shape image events block)
