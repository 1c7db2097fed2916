-- What holds of all verdicts of a judge at a client's pins.
use Rattle.std.specs.Prelude.{◌≡◌, ◌≢◌, ◌⊎◌, ℕ, List, [], ◌∷◌, ◌++◌, Some, None}
use Rattle.tl_protocol.specs.declared.shape.Shape.{Shape}
use Rattle.tlwire_search.specs.Where.{block_of}
use Rattle.tlwire_search.specs.declared.seen.Seen.{Seen}
use Rattle.tlwire_pins.specs.Judged.{Breaks, EachMay}
use Rattle.tlwire_pins.specs.Pins.{own}
use Rattle.tlwire_pins.specs.View.{fresh, keeps, led_by}
use Rattle.tlwire_pins.specs.declared.view.Cores.{Cores}
use Rattle.tlwire_pins.specs.declared.views.Broken.{Broken}
use Rattle.tlwire_embed.specs.Lines.{line_of}
use Rattle.tlwire_embed.specs.Opens.{IsOpened, SeesRoom}
use Rattle.tlwire_embed.specs.Told.{broken_told, only, with_view}
use Rattle.tlwire_embed.specs.declared.line.PinsLine.{PinsLine}
use Rattle.tlwire_embed.specs.declared.room.PinsRoom.{PinsRoom}
use Rattle.tlwire_embed.specs.declared.verdict.PinsVerdict.{PinsVerdict}

-- a judge sees these lines, one after another, and tells these verdicts
abbrev pub AreSeen : PinsRoom → List (PinsLine × PinsVerdict) → PinsRoom → Type 0
AreSeen old [] new = new ≡ old
AreSeen old (x ∷ more) new = (next : PinsRoom) × SeesRoom old x.0 next x.1 × AreSeen next more new

-- each of these is told this
abbrev pub AllTold : PinsVerdict → List (PinsLine × PinsVerdict) → Type 0
AllTold told [] = Unit {0}
AllTold told (x ∷ more) = (x.1 ≡ told) × AllTold told more

-- the judge is closed by its caller: 0 is told, and 18 of each behind it
abbrev pub Closes : PinsVerdict → List (PinsLine × PinsVerdict) → Type 0
Closes told more = (told ≡ only 0) × AllTold (record (only 18) { why = 18 }) more

-- each of these is told this, until the judge is closed
abbrev pub AreRepeated : PinsVerdict → List (PinsLine × PinsVerdict) → Type 0
AreRepeated fault [] = Unit {0}
AreRepeated fault (x ∷ more) =
    (x.0.what ≡ 255 → Closes x.1 more) × (x.0.what ≢ 255 → (x.1 ≡ fault) × AreRepeated fault more)

-- Behind these lines, of which it is the last, a line is taken: 0, and what they lead to of its block.
abbrev pub taken_told : Cores → Shape → ℕ → List Seen → Seen → PinsVerdict
taken_told cores shape c lines x =
    with_view (led_by (keeps cores) shape fresh (own shape c (block_of shape.block_bytes x) lines)) (only 0)

-- A line breaks this behind others, so that no lawful run is seen so at the client's pins (`Breaks`); it is told so.
pub record IsToldBroken (cores : Cores) (shape : Shape) (c : ℕ) (lines : List Seen) (x : Seen) (told : PinsVerdict) : Type 0 where
  pub broken : Broken
  pub breaks : Breaks cores shape c lines x broken
  pub tells : told ≡ broken_told broken

-- What is told of lines behind others, until the judge is closed: of numbers that are no line 17; of one with which each may be seen 0,
-- with the state behind it, and so on; of the first that may not which rule it breaks, or want of memory, and that of each behind it.
abbrev pub AreToldBehind : Cores → Shape → ℕ → List Seen → List (PinsLine × PinsVerdict) → Type 0
AreToldBehind cores shape c lines [] = Unit {0}
AreToldBehind cores shape c lines (x ∷ more) =
    (x.0.what ≡ 255 → Closes x.1 more)
    × (x.0.what ≢ 255
    → ((line_of cores shape x.0 ≡ None) × (x.1 ≡ only 17) × AreToldBehind cores shape c lines more)
    ⊎ ((line : Seen) × (line_of cores shape x.0 ≡ Some line)
    × ((EachMay (keeps cores) shape c (lines ++ line ∷ []) × (x.1 ≡ taken_told cores shape c (lines ++ line ∷ []) line)
    × AreToldBehind cores shape c (lines ++ line ∷ []) more)
    ⊎ ((IsToldBroken cores shape c lines line x.1 ⊎ (x.1 ≡ only 14)) × AreRepeated x.1 more))))

-- Whatever a judge that was opened at a client's pins sees, it tells just that.
abbrev pub EveryJudgingAtPins : Type 0
EveryJudgingAtPins =
    (cores : Cores) (shape : Shape) (c : ℕ) (seen : List (PinsLine × PinsVerdict)) (made end : PinsRoom)
    → IsOpened cores shape c made → AreSeen made seen end → AreToldBehind cores shape c [] seen
