-- What holds of all verdicts of a judge beside a bench.
use Rattle.std.specs.Prelude.{◌≡◌, ◌≢◌, ◌⊎◌, ℕ, List, [], ◌∷◌, ◌++◌, Some, None}
use Rattle.tl_protocol.specs.declared.event.Event.{Event}
use Rattle.tl_protocol.specs.declared.shape.Shape.{Shape}
use Rattle.tlcheck_rules.specs.Judged.{Breaks, IsPermitted}
use Rattle.tlcheck_rules.specs.declared.entry.Entry.{Entry}
use Rattle.tlcheck_rules.specs.declared.judge.Breach.{Breach}
use Rattle.tlcheck_rules.specs.declared.order.ChannelOrder.{ChannelOrder}
use Rattle.tlcheck_embed.specs.Asked.{entry_of}
use Rattle.tlcheck_embed.specs.Opens.{IsOpened, SeesRoom}
use Rattle.tlcheck_embed.specs.Told.{breach_told, only}
use Rattle.tlcheck_embed.specs.declared.entry.BenchEntry.{BenchEntry}
use Rattle.tlcheck_embed.specs.declared.room.JudgeRoom.{JudgeRoom}
use Rattle.tlcheck_embed.specs.declared.verdict.Verdict.{Verdict}

-- a judge sees these entries, one after another, and tells these verdicts
abbrev pub AreSeen : JudgeRoom → List (BenchEntry × Verdict) → JudgeRoom → Type 0
AreSeen old [] new = new ≡ old
AreSeen old (x ∷ more) new = (next : JudgeRoom) × SeesRoom old x.0 next x.1 × AreSeen next more new

-- each of these is told this
abbrev pub AllTold : Verdict → List (BenchEntry × Verdict) → Type 0
AllTold told [] = Unit {0}
AllTold told (x ∷ more) = (x.1 ≡ told) × AllTold told more

-- the judge is closed by its caller: 0 is told, and 18 of each behind it
abbrev pub Closes : Verdict → List (BenchEntry × Verdict) → Type 0
Closes told more = (told ≡ only 0) × AllTold (record (only 18) { why = 18 }) more

-- each of these is told this, until the judge is closed
abbrev pub AreRepeated : Verdict → List (BenchEntry × Verdict) → Type 0
AreRepeated fault [] = Unit {0}
AreRepeated fault (x ∷ more) =
    (x.0.event ≡ 255 → Closes x.1 more) × (x.0.event ≢ 255 → (x.1 ≡ fault) × AreRepeated fault more)

-- An entry breaks this first after a log: 31 and the rule are told.
pub record IsToldBroken (order : ChannelOrder) (shape : Shape) (image : List ℕ) (log : List Event) (entry : Entry) (told : Verdict) : Type 0 where
  pub breach : Breach
  pub breaks : Breaks order shape image log entry breach
  pub status : told.status ≡ 31
  pub rule : told.rule ≡ (breach_told breach).rule

-- What is told of entries after a log, until the judge is closed: of numbers that are no entry 17; of one that is permitted 0, and so on
-- after it; of the first that is not which rule it breaks, or want of memory, and that of each behind it.
abbrev pub AreToldAfter : ChannelOrder → Shape → List ℕ → List Event → List (BenchEntry × Verdict) → Type 0
AreToldAfter order shape image log [] = Unit {0}
AreToldAfter order shape image log (x ∷ more) =
    (x.0.event ≡ 255 → Closes x.1 more)
    × (x.0.event ≢ 255
    → ((entry_of x.0 ≡ None) × (x.1 ≡ only 17) × AreToldAfter order shape image log more)
    ⊎ ((entry : Entry) × (entry_of x.0 ≡ Some entry)
    × (((x.1.status ≡ 0) × IsPermitted order shape image log entry × AreToldAfter order shape image (log ++ entry.event ∷ []) more)
    ⊎ ((IsToldBroken order shape image log entry x.1 ⊎ (x.1 ≡ only 14)) × AreRepeated x.1 more))))

-- Whatever a judge that was opened sees, it tells just that.
abbrev pub EveryJudging : Type 0
EveryJudging =
    (order : ChannelOrder) (shape : Shape) (image : List ℕ) (seen : List (BenchEntry × Verdict)) (made end : JudgeRoom)
    → IsOpened order shape image made → AreSeen made seen end → AreToldAfter order shape image [] seen
