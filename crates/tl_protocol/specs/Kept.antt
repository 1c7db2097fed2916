-- What every run keeps of the copies of each block, and of their bytes (this project's own theorems).
use Rattle.std.specs.Prelude.{◌≡◌, ◌≢◌, ℕ, ◌*◌, ◌≤◌, List, length, Some}
use Rattle.tl_types.specs.declared.permission.Perm.TheVariants.{None as p_None, Tip}
use Rattle.tl_protocol.specs.declared.event.Event.{Event}
use Rattle.tl_protocol.specs.declared.home.Line.{Line}
use Rattle.tl_protocol.specs.declared.shape.Shape.{Shape}
use Rattle.tl_types.specs.Permission.{rank}
use Rattle.tl_protocol.specs.Copy.{perm_of, bytes_of}
use Rattle.tl_protocol.specs.Protocol.{Block}
use Rattle.tl_protocol.specs.Runs.{IsRun, end_of}
use Rattle.tl_protocol.specs.Coherent.{AreLast, LoadsLast}

-- At most one client may write the block, and then no other may read it. Every copy stands in the directory and at home.
pub record IsKeptAt (s : Block) : Type 0 where
  pub alone : (x y : ℕ) → x ≢ y → perm_of (s.client x).held ≡ Tip → perm_of (s.client y).held ≡ p_None
  pub recorded : (x : ℕ) → rank (perm_of (s.client x).held) ≤ rank (s.client x).recorded
  pub at_home : (x : ℕ) → perm_of (s.client x).held ≢ p_None → (line : Line) × (s.home ≡ Some line)

-- Every copy of the block is whole and has the bytes last stored.
pub record IsNewestAt (shape : Shape) (image : List ℕ) (events : List Event) (block : ℕ) (s : Block) : Type 0 where
  pub sized : (x : ℕ) → perm_of (s.client x).held ≢ p_None → length (bytes_of (s.client x).held) ≡ shape.block_bytes
  pub newest :
      (x : ℕ) → perm_of (s.client x).held ≢ p_None
      → AreLast image events (block * shape.block_bytes) (bytes_of (s.client x).held)

-- so it is with each block in the end of every run
abbrev pub EveryRunKeepsCopies : Type 0
EveryRunKeepsCopies =
    (shape : Shape) (image : List ℕ) (events : List Event) → IsRun shape image events → (block : ℕ)
    → IsKeptAt (end_of shape image events block)

-- so it is with each block in the end of every run, and with each load in it
abbrev pub EveryRunReadsLast : Type 0
EveryRunReadsLast =
    (shape : Shape) (image : List ℕ) (events : List Event) → IsRun shape image events
    → ((block : ℕ) → IsNewestAt shape image events block (end_of shape image events block)) × LoadsLast image events
