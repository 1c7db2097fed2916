-- What a judge at a client's pins does of a line.
use Rattle.std.specs.Prelude.{◌≡◌, ◌⊎◌, ℕ, List, [], ◌∷◌, ◌++◌, Option, Some, None}
use Rattle.tl_protocol.specs.declared.shape.Shape.{Shape}
use Rattle.tlwire_search.specs.Where.{block_of}
use Rattle.tlwire_search.specs.declared.seen.Seen.{Seen}
use Rattle.tlwire_pins.specs.Judged.{Breaks, Follows, holds}
use Rattle.tlwire_pins.specs.declared.judge.PinsJudge.{PinsJudge}
use Rattle.tlwire_pins.specs.declared.view.Cores.{Cores}
use Rattle.tlwire_pins.specs.declared.views.Broken.{Broken}
use Rattle.tlwire_embed.specs.Lines.{line_of}
use Rattle.tlwire_embed.specs.Told.{broken_told, only, with_view}
use Rattle.tlwire_embed.specs.declared.bench.PinsBench.{PinsBench}
use Rattle.tlwire_embed.specs.declared.line.PinsLine.{PinsLine}
use Rattle.tlwire_embed.specs.declared.verdict.PinsVerdict.{PinsVerdict}

-- At the pins of a client it saw no line, and nothing was refused.
pub record IsFresh (cores : Cores) (shape : Shape) (c : ℕ) (b : PinsBench) : Type 0 where
  pub lawful : b.fault ≡ None
  pub follows : Follows cores shape c [] b.judge

-- the line may be seen, and what the client then holds of its block and waits for
abbrev pub state_told : PinsJudge → Seen → PinsVerdict
state_told judge x = with_view (holds judge (block_of judge.shape.block_bytes x)) (only 0)

-- The line may be seen after the lines where the judge is, which goes on with it; 0 is told, with the state behind it.
pub record Takes (old : PinsBench) (x : Seen) (new : PinsBench) (told : PinsVerdict) : Type 0 where
  pub tells : told ≡ state_told new.judge x
  pub lawful : new.fault ≡ None
  pub follows :
      (cores : Cores) (shape : Shape) (c : ℕ) (lines : List Seen)
      → Follows cores shape c lines old.judge → Follows cores shape c (lines ++ x ∷ []) new.judge

-- It breaks this, and no lawful run is seen so at the client's pins (`Breaks`); that is told and kept, with the state before it.
pub record Refuses (old : PinsBench) (x : Seen) (new : PinsBench) (told : PinsVerdict) : Type 0 where
  pub broken : Broken
  pub tells : told ≡ broken_told broken
  pub keeps : new.fault ≡ Some told
  pub breaks :
      (cores : Cores) (shape : Shape) (c : ℕ) (lines : List Seen)
      → Follows cores shape c lines old.judge → Breaks cores shape c lines x broken

-- A request for memory was refused: that is told and kept.
pub record Starves (new : PinsBench) (told : PinsVerdict) : Type 0 where
  pub tells : told ≡ only 14
  pub keeps : new.fault ≡ Some told

-- a line is taken, refused, or ends in want of memory
abbrev pub Judges : PinsBench → Seen → PinsBench → PinsVerdict → Type 0
Judges old x new told = Takes old x new told ⊎ (Refuses old x new told ⊎ Starves new told)

-- the same where the numbers are those of a line; else 17 is told, and nothing changes
abbrev pub JudgesIf : Option Seen → PinsBench → PinsBench → PinsVerdict → Type 0
JudgesIf None old new told = (new ≡ old) × (told ≡ only 17)
JudgesIf (Some x) old new told = Judges old x new told

-- the same where nothing was refused before; else that is told again, and nothing changes
abbrev pub SeesAt : Option PinsVerdict → PinsBench → PinsLine → PinsBench → PinsVerdict → Type 0
SeesAt None old l new told = JudgesIf (line_of old.judge.cores old.judge.shape l) old new told
SeesAt (Some fault) old l new told = (new ≡ old) × (told ≡ fault)

-- what a call does of a line
abbrev pub Sees : PinsBench → PinsLine → PinsBench → PinsVerdict → Type 0
Sees old l new told = SeesAt old.fault old l new told
