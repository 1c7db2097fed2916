-- What a judge beside a bench does of an entry.
use Rattle.std.specs.Prelude.{◌≡◌, ◌⊎◌, ℕ, List, [], ◌∷◌, ◌++◌, Option, Some, None}
use Rattle.tl_protocol.specs.declared.event.Event.{Event}
use Rattle.tl_protocol.specs.declared.shape.Shape.{Shape}
use Rattle.tlcheck_rules.specs.Judged.{Breaks, Follows, IsPermitted}
use Rattle.tlcheck_rules.specs.declared.entry.Entry.{Entry}
use Rattle.tlcheck_rules.specs.declared.order.ChannelOrder.{ChannelOrder}
use Rattle.tlcheck_rules.specs.declared.judge.Breach.{Breach}
use Rattle.tlcheck_embed.specs.Asked.{entry_of}
use Rattle.tlcheck_embed.specs.Told.{breach_told, only, with_state}
use Rattle.tlcheck_embed.specs.declared.bench.Bench.{Bench}
use Rattle.tlcheck_embed.specs.declared.entry.BenchEntry.{BenchEntry}
use Rattle.tlcheck_embed.specs.declared.verdict.Verdict.{Verdict}

-- At reset over an image in an order of the channels, and nothing was refused.
pub record IsFresh (order : ChannelOrder) (shape : Shape) (image : List ℕ) (b : Bench) : Type 0 where
  pub lawful : b.fault ≡ None
  pub follows : Follows order shape image [] b.judge

-- a judge with what each later call tells
abbrev pub kept : Bench → Verdict → Bench
kept b told = record b { fault = Some told }

-- The entry is permitted after the log where the judge is, which goes on with it; 0 is told, with the state behind it.
pub record Takes (old : Bench) (entry : Entry) (new : Bench) (told : Verdict) : Type 0 where
  pub tells : told ≡ with_state new.judge entry.event (only 0)
  pub lawful : new.fault ≡ None
  pub follows :
      (order : ChannelOrder) (shape : Shape) (image : List ℕ) (log : List Event) → Follows order shape image log old.judge
      → IsPermitted order shape image log entry × Follows order shape image (log ++ entry.event ∷ []) new.judge

-- It breaks this first, which is told and kept, with the state before it; the judge stays where it is.
pub record Refuses (old : Bench) (entry : Entry) (new : Bench) (told : Verdict) : Type 0 where
  pub breach : Breach
  pub tells : told ≡ with_state old.judge entry.event (breach_told breach)
  pub keeps : new ≡ kept old told
  pub breaks :
      (order : ChannelOrder) (shape : Shape) (image : List ℕ) (log : List Event) → Follows order shape image log old.judge → Breaks order shape image log entry breach

-- A request for memory was refused: that is told and kept.
pub record Starves (new : Bench) (told : Verdict) : Type 0 where
  pub tells : told ≡ only 14
  pub keeps : new.fault ≡ Some told

-- an entry is taken, refused, or ends in want of memory
abbrev pub Judges : Bench → Entry → Bench → Verdict → Type 0
Judges old entry new told = Takes old entry new told ⊎ (Refuses old entry new told ⊎ Starves new told)

-- the same where the numbers are those of an entry; else 17 is told, and nothing changes
abbrev pub JudgesIf : Option Entry → Bench → Bench → Verdict → Type 0
JudgesIf None old new told = (new ≡ old) × (told ≡ only 17)
JudgesIf (Some entry) old new told = Judges old entry new told

-- the same where nothing was refused before; else that is told again, and nothing changes
abbrev pub SeesAt : Option Verdict → Bench → BenchEntry → Bench → Verdict → Type 0
SeesAt None old e new told = JudgesIf (entry_of e) old new told
SeesAt (Some fault) old e new told = (new ≡ old) × (told ≡ fault)

-- what a call does of an entry
abbrev pub Sees : Bench → BenchEntry → Bench → Verdict → Type 0
Sees old e new told = SeesAt old.fault old e new told
